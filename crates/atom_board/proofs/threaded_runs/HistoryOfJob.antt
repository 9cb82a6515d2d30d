-- The history of a run whose job is known.
use Rattle.std.proofs.Common.{◌≡◌, subst}
use Rattle.atom_board.specs.Mutators.{ClosedState}
use Rattle.never_heap.specs.Histories.{parts}
use Rattle.never_heap.specs.Runs.{IsRun}
use Rattle.atom_board.specs.threaded_runs.EndedRuns.{HasHistory, job_of}
use Rattle.trace_text.specs.Jobs.{Job}

module _ (run : ClosedState) (job : Job) (is : job_of run ≡ job) (ran : HasHistory run) where
  pub run_of : IsRun job.config ran.rate job.traces ran.history
  run_of = subst (λ (j : Job). IsRun j.config ran.rate j.traces ran.history) is ran.is_run

  pub parts_of : parts job.config.threads ran.history ≡ run.logs
  parts_of =
      subst (λ (j : Job). parts j.config.threads ran.history ≡ run.logs) is ran.parts_logged
