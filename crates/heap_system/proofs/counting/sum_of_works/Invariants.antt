use Rattle.std.proofs.Common.{◌≡◌, ◌≤◌, length, take}
use Rattle.heap_system.specs.Locals.{works}
use Rattle.heap_system.proofs.counting.sum_of_works.Given as goal

abbrev pub invariant-loop-entry : goal.invariant-loop-entry
invariant-loop-entry l = (l.sum ≡ works (take l.entry-index l.entries)) × (l.entry-index ≤ length l.entries)
