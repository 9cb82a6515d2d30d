-- What the threads so far recalled, and what those that are left did, is what all recalled.
use Rattle.std.proofs.Common.{◌≡◌, ◌++◌, drop, map}
use Rattle.rt_mail.specs.Recalled.{recalled_in}
use Rattle.rt_mail.proofs.keeping.recalled.Given as goal

abbrev pub invariant-loop-t : goal.invariant-loop-t
invariant-loop-t l =
    map (λ v. v.items) l.last.items
    ++ recalled_in (drop l.t l.taken.taken) (drop l.t l.run.logs)
    ≡ recalled_in l.taken.taken l.run.logs
