-- The numbers so far, and those that the rest of the log tells, are all numbers.
use Rattle.std.proofs.Common.{◌≡◌, ◌++◌, length}
use Rattle.array_tables.specs.number_rings.Rings.{numbers_told, recalled}
use Rattle.never_heap.proofs.Lemmas.{replies}
use Rattle.array_tables.proofs.number_rings.recalling.recalled_numbers.Given as goal

abbrev pub invariant-loop-rest : goal.invariant-loop-rest
invariant-loop-rest l =
    l.numbers.items ++ numbers_told (replies l.rest) ≡ recalled l.kept (replies l.log)

abbrev pub decreases-loop-rest : goal.decreases-loop-rest
decreases-loop-rest l = length l.rest
