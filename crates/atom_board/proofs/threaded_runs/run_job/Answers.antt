use Rattle.std.proofs.Common.{◌≡◌, sym, subst}
use Rattle.heap_system.specs.Machines.{IsJob}
use Rattle.heap_system.proofs.Lemmas.{job_of_text}
use Rattle.trace_text.specs.Jobs.{Job}
use Rattle.atom_board.proofs.MutatorsInOrder.{in_order_each}
use Rattle.atom_board.specs.threaded_runs.EndedRuns.{HasTurns, job_of}
use Rattle.atom_board.proofs.threaded_runs.Shown.{run_shows}
use Rattle.atom_board.proofs.threaded_runs.run_job.Given.{Over}
use Rattle.atom_board.proofs.threaded_runs.run_job.Goals as goal

pub close-requires-clause-mutators : goal.close-requires-clause-mutators
close-requires-clause-mutators g c =
    in_order_each c.in_ok-board.board c.in_ok-done.done.items c.in_ok-done.ensures.mutators

shows : (g : Over) (c : goal.After-close g)
    → (job_of c.close.result ≡ c.args.job) × HasTurns c.close.result
shows g c = run_shows (record {
  never = c.fulls_are_licensed.ensures.never;
  few = c.cycles_give_few_blocks.ensures;
  least = c.cycles_cost_few_units.ensures.least;
  most = c.cycles_cost_few_units.ensures.most;
  done = c.cycles_cost_few_units.ensures.done;
}) _ _ _ _ _ c.close.result _ c.close.ensures.config c.in_ok-board.ensures.board.0 c.in_ok-board.ensures.board.1
    c.close.ensures.counted c.job.view_is

pub returns-clause-job : goal.returns-clause-job
returns-clause-job g c = (shows g c).0

pub returns-clause-ran : goal.returns-clause-ran
returns-clause-ran g c = (shows g c).1.0

pub returns-clause-turns : goal.returns-clause-turns
returns-clause-turns g c = (shows g c).1

pub new-requires : goal.new-requires
new-requires g c =
    subst (λ (j : Job). IsJob j.config j.traces) (sym c.job.view_is) (job_of_text _ _ c.requires.bounds c.requires.admitted)
