use Rattle.std.proofs.Common.{take}
use Rattle.never_heap.proofs.Rounds.{Rounded}
use Rattle.never_heap.proofs.graph.Graph.mark_fields.Given as goal

abbrev pub invariant-loop-name : goal.invariant-loop-name
invariant-loop-name l = Rounded l.self.graph l.initial.marks l.marks l.is_new
    (take l.name-index l.list)
