use Rattle.std.proofs.Common.{◌≡◌, length, All}
use Rattle.never_heap.specs.Jobs.{IsTraceInBounds}
use Rattle.test_kit.proofs.board_jobs.traces.job_of.Given as goal

abbrev pub invariant-loop-thread : goal.invariant-loop-thread
invariant-loop-thread g l = (length l.traces.items ≡ l.thread) × All (λ v. IsTraceInBounds l.c v.items) l.traces.items
