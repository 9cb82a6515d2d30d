use Rattle.std.proofs.Common.{◌≤◌}
use Rattle.shared_heap.proofs.Driven.{HasMade}
use Rattle.shared_heap.proofs.drives.drives_some.Given as goal

abbrev pub invariant-loop-made : goal.invariant-loop-made
invariant-loop-made g l =
    HasMade l._made g.C.Memory.acts l.shared l.fn.memory l.fn.local l.memory l.local
    × g.C.ThreadMemory.stands l.memory l.shared l.local
    × (l._made ≤ l.most)
