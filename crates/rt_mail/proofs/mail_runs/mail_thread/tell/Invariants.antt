-- What was sent, and what the entries that are left say, is all.
use Rattle.std.proofs.Common.{◌≡◌, ◌++◌, drop}
use Rattle.rt_mail.specs.said_numbers.Said.{numbers_said}
use Rattle.rt_mail.proofs.mail_runs.mail_thread.tell.Given as goal

abbrev pub invariant-loop-entry : goal.invariant-loop-entry
invariant-loop-entry g l =
    (l.sender.post ≡ l.fn.sender.post) × (l.sender.thread ≡ l.fn.sender.thread)
    × (l.sender.sent ++ numbers_said (drop l.entry-index l.entries)
    ≡ l.fn.sender.sent ++ numbers_said l.entries)
