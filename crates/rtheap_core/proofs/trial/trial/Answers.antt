use Rattle.std.proofs.Common.{List, Vec, Global, map, refl, sym, subst}
use Rattle.never_heap.specs.declared.Command.{Command}
use Rattle.heap_system.specs.Machines.{IsJob}
use Rattle.heap_system.proofs.Lemmas.{job_of_text}
use Rattle.rtheap_core.specs.declared.schedules.Schedule.TheVariants.{Serial}
use Rattle.never_heap.specs.Jobs.{IsJobInBounds}
use Rattle.trace_text.specs.Jobs.{Job}
use Rattle.rtheap_core.proofs.Replays.{totals_shown}
use Rattle.rtheap_core.proofs.Trials.{IsTried, trial_of}
use Rattle.rtheap_core.proofs.trial.trial.Goals as goal

abbrev traces_in : (c : goal.After-replay) → List (List Command)
traces_in c = map (λ (v : Vec Command Global). v.items) c.job.inside.traces.items

tried : (c : goal.After-replay)
    → IsTried c.job.inside.config (traces_in c) c.replay.new.system
tried c = trial_of (record {
  runs = c.replays_are_runs.ensures;
  stop = c.replays_stop.ensures;
  serial = c.replays_end.ensures.serial;
  small = c.one_rate.ensures.small;
  single = c.one_rate.ensures.single;
}) c.in_ok-system.system c.replay.new.system c.job.inside.config (traces_in c)
    c.in_ok-system.ensures.config c.in_ok-system.ensures.opening c.in_ok-system.ensures.ordered
    c.replay.ensures.state
    (subst (λ (j : Job). IsJob j.config j.traces) (sym c.job.view_is)
    (job_of_text _ _ c.requires.bounds c.requires.admitted))
    (subst (λ (j : Job). IsJobInBounds j.config j.traces) (sym c.job.view_is) c.requires.bounds)

pub finished-run-requires : goal.finished-run-requires
finished-run-requires c = (tried c).done

pub returns : goal.returns
returns c =
    let traces = map (λ (v : Vec Command Global). v.items) c.job.inside.traces.items in
    let job : IsJob c.job.inside.config traces =
    subst (λ (j : Job). IsJob j.config j.traces) (sym c.job.view_is)
    (job_of_text _ _ c.requires.bounds c.requires.admitted) in
    let t = trial_of (record {
      runs = c.replays_are_runs.ensures;
      stop = c.replays_stop.ensures;
      serial = c.replays_end.ensures.serial;
      small = c.one_rate.ensures.small;
      single = c.one_rate.ensures.single;
    }) c.in_ok-system.system c.replay.new.system c.job.inside.config traces
    c.in_ok-system.ensures.config c.in_ok-system.ensures.opening c.in_ok-system.ensures.ordered
    c.replay.ensures.state job
    (subst (λ (j : Job). IsJobInBounds j.config j.traces) (sym c.job.view_is) c.requires.bounds) in
    totals_shown c.job.inside.config traces Serial t.turns c.replay.new.system t.after job t.done
    c.finished-run.result c.finished-run.ensures.config c.finished-run.ensures.logs
    c.finished-run.ensures.cycles c.args.job c.job.view_is refl t.few
    record { cycles = c.cycles.result; units = c.units.result } c.cycles.ensures c.units.ensures

pub new-requires : goal.new-requires
new-requires c =
    subst (λ (j : Job). IsJob j.config j.traces) (sym c.job.view_is) (job_of_text _ _ c.requires.bounds c.requires.admitted)
