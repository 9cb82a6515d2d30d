use Rattle.std.proofs.Common.{◌≡◌, length}
use Rattle.thread_tests.proofs.slim.mail.works.Given as goal

abbrev pub invariant-loop-row : goal.invariant-loop-row
invariant-loop-row g l = ((l.sender.post ≡ l.fn.sender.post) × (l.sender.thread ≡ l.fn.sender.thread))
    × (l.taker.post ≡ l.fn.taker.post) × (length l.taker.taken ≡ length l.fn.taker.taken)
