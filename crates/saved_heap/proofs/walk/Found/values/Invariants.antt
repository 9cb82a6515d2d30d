use Rattle.std.proofs.Common.{take}
use Rattle.saved_heap.specs.Walks.{Reads, state_of}
use Rattle.saved_heap.proofs.walk.Found.values.Given as goal

abbrev pub invariant-loop-one : goal.invariant-loop-one
invariant-loop-one l = Reads (state_of l.fn.self) (state_of l.self) (take l.one-index l.seen) l.values.items
