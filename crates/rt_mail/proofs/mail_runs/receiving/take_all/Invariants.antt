use Rattle.std.proofs.Common.{◌≡◌, length}
use Rattle.rt_mail.proofs.mail_runs.receiving.take_all.Given as goal

abbrev pub invariant-loop : goal.invariant-loop
invariant-loop g l =
    (l.who.post ≡ l.fn.who.post) × (l.who.sent ≡ l.fn.who.sent)
    × (length l.who.taken ≡ length l.fn.who.taken)
