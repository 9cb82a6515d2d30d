-- The threads so far have said so.
use Rattle.std.proofs.Common.{◌<◌, ℕ, [], slice_index_or}
use Rattle.test_kit.specs.board_jobs.Served.{HasSaid}
use Rattle.test_kit.proofs.board_jobs.meeting.have_said.Given as goal

abbrev pub invariant-loop-thread : goal.invariant-loop-thread
invariant-loop-thread g l =
    (t : ℕ) → t < l.thread → HasSaid (slice_index_or (g.L.Logs.logs l.logs) t [])
