-- The threads so far were served.
use Rattle.std.proofs.Common.{◌<◌, ℕ, [], slice_index_or}
use Rattle.test_kit.specs.board_jobs.Served.{AreServed}
use Rattle.test_kit.proofs.board_jobs.rounds.are_right.Given as goal

abbrev pub invariant-loop-thread : goal.invariant-loop-thread
invariant-loop-thread g l =
    (t : ℕ) → t < l.thread → AreServed (slice_index_or (g.L.Logs.logs l.logs) t [])
