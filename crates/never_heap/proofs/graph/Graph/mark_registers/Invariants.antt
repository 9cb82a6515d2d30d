use Rattle.std.proofs.Common.{take}
use Rattle.std.specs.List.{list_any}
use Rattle.never_heap.specs.Graphs.{Mutator}
use Rattle.never_heap.specs.Reach.{stands_in}
use Rattle.never_heap.proofs.MarkSpread.{Grown}
use Rattle.never_heap.proofs.graph.Graph.mark_registers.Given as goal

abbrev pub invariant-loop-mutator : goal.invariant-loop-mutator
invariant-loop-mutator l =
    Grown l.fn.marks l.marks (λ b. list_any (λ (m : Mutator). stands_in b m.registers)
    (take l.mutator-index l.mutator-items))
