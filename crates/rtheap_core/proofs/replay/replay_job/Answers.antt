use Rattle.std.proofs.Common.{◌≤◌, ◌^◌, sym, subst}
use Rattle.heap_system.specs.Machines.{IsJob}
use Rattle.heap_system.specs.Systems.{commands_in}
use Rattle.heap_system.proofs.Lemmas.{job_of_text, text_few}
use Rattle.trace_text.specs.Jobs.{Job}
use Rattle.rtheap_core.proofs.Replays.{is_after, opens_order, room_left, still_kept, leaves, job_shown_by, replay_shown}
use Rattle.rtheap_core.proofs.replay.replay_job.Goals as goal

pub replay-requires : goal.replay-requires
replay-requires c = room_left _ c.args.turns c.in_ok-system.ensures.ordered

pub returns-in-Some-clause-fault : goal.returns-in-Some-clause-fault
returns-in-Some-clause-fault c =
    leaves _ _ c.args.schedule c.args.turns c.replay.new.system
    (is_after c.replays_are_runs.ensures c.in_ok-system.system c.replay.new.system _ _
    c.args.schedule c.args.turns c.in_ok-system.ensures.config c.in_ok-system.ensures.opening
    (opens_order _ c.args.turns c.in_ok-system.ensures.ordered) c.replay.ensures.state)
    c.in-Some.thread c.in-Some.ensures.undone c.args.job c.job.view_is

pub returns-in-None-clause-job : goal.returns-in-None-clause-job
returns-in-None-clause-job c =
    job_shown_by _ _ c.args.schedule c.args.turns c.replay.new.system
    (is_after c.replays_are_runs.ensures c.in_ok-system.system c.replay.new.system _ _
    c.args.schedule c.args.turns c.in_ok-system.ensures.config c.in_ok-system.ensures.opening
    (opens_order _ c.args.turns c.in_ok-system.ensures.ordered) c.replay.ensures.state)
    (subst (λ (j : Job). IsJob j.config j.traces) (sym c.job.view_is)
    (job_of_text _ _ c.requires.bounds c.requires.admitted)) c.in-None.ensures.done c.finished.result c.finished.ensures.config
    c.finished.ensures.logs c.finished.ensures.cycles c.args.job c.job.view_is

pub returns-in-None-clause-replayed : goal.returns-in-None-clause-replayed
returns-in-None-clause-replayed c =
    replay_shown _ _ c.args.schedule c.args.turns c.replay.new.system
    (is_after c.replays_are_runs.ensures c.in_ok-system.system c.replay.new.system _ _
    c.args.schedule c.args.turns c.in_ok-system.ensures.config c.in_ok-system.ensures.opening
    (opens_order _ c.args.turns c.in_ok-system.ensures.ordered) c.replay.ensures.state)
    (subst (λ (j : Job). IsJob j.config j.traces) (sym c.job.view_is)
    (job_of_text _ _ c.requires.bounds c.requires.admitted)) c.in-None.ensures.done c.finished.result c.finished.ensures.config
    c.finished.ensures.logs c.finished.ensures.cycles (record {
      never = c.fulls_are_licensed.ensures.never;
      few = c.cycles_give_few_blocks.ensures;
      least = c.cycles_cost_few_units.ensures.least;
      most = c.cycles_cost_few_units.ensures.most;
      done = c.cycles_cost_few_units.ensures.done;
    }) c.finished.ensures.order
    (still_kept c.in_ok-system.system c.replay.new.system c.args.schedule c.args.turns
    c.in_ok-system.ensures.ordered c.replay.ensures.state)

pub new_ordered-requires-clause-few : goal.new_ordered-requires-clause-few
new_ordered-requires-clause-few c =
    subst (λ (j : Job). commands_in j.traces ≤ 2 ^ 32) (sym c.job.view_is)
    (text_few _ _ c.requires.bounds)

pub new_ordered-requires-clause-job : goal.new_ordered-requires-clause-job
new_ordered-requires-clause-job c =
    subst (λ (j : Job). IsJob j.config j.traces) (sym c.job.view_is) (job_of_text _ _ c.requires.bounds c.requires.admitted)
