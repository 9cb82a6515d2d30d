-- The says so far, and those of the traces that are left, are all.
use Rattle.std.proofs.Common.{◌≡◌, ◌+◌, drop, map}
use Rattle.rt_mail.specs.mail_runs.Rooms.{all_says}
use Rattle.rt_mail.proofs.mail_runs.letters.room_for.Given as goal

abbrev pub invariant-loop-trace : goal.invariant-loop-trace
invariant-loop-trace l =
    l.says + all_says (map (λ v. v.items) (drop l.trace-index l.trace-items))
    ≡ all_says (map (λ v. v.items) l.trace-items)
