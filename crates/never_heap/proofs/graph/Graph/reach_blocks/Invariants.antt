use Rattle.std.proofs.Common.{◌≡◌, ◌+◌, ◌*◌, ◌≤◌, take, length}
use Rattle.block_store.specs.Registers.{registers_end}
use Rattle.never_heap.proofs.Sums.{marked_blocks}
use Rattle.never_heap.proofs.graph.Graph.reach_blocks.Given as goal

abbrev pub invariant-loop-name : goal.invariant-loop-name
invariant-loop-name l =
    (l.blocks ≡ registers_end l.self.width
    (length l.self.graph.mutators) + marked_blocks l.self.width l.self.graph l.marks
    (take l.name-index l.name-items))
    × (l.blocks ≤ 80 + 21845 * l.name-index)
