use Rattle.std.proofs.Common.{◌≡◌, length}
use Rattle.thread_tests.proofs.slim.mail.closes.Given as goal

abbrev pub invariant-loop-letter : goal.invariant-loop-letter
invariant-loop-letter g l = (l.taker.post ≡ l.fn.taker.post) × (l.taker.sent ≡ l.fn.taker.sent)
    × (length l.taker.taken ≡ length l.fn.taker.taken)
