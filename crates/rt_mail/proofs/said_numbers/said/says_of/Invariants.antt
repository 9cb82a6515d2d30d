-- The says so far and those of the commands that are left are all.
use Rattle.std.proofs.Common.{◌≡◌, ◌≤◌, ◌+◌, drop}
use Rattle.rt_mail.specs.said_numbers.Said.{says_in}
use Rattle.rt_mail.proofs.said_numbers.said.says_of.Given as goal

abbrev pub invariant-loop-command : goal.invariant-loop-command
invariant-loop-command l =
    (l.says + says_in (drop l.command-index l.trace) ≡ says_in l.trace)
    × (l.says ≤ l.command-index)
