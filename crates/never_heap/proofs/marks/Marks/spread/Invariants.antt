use Rattle.std.proofs.Common.{take}
use Rattle.never_heap.proofs.MarkSpread.{Spread}
use Rattle.never_heap.proofs.marks.Marks.spread.Given as goal

abbrev pub invariant-loop-value : goal.invariant-loop-value
invariant-loop-value l = Spread l.initial.self l.self l.is_new (take l.value-index l.values)
