use Rattle.std.specs.Prelude.{◌≤◌}
use Rattle.atom_board.specs.Drives.{HasDriven, commands_begun}
use Rattle.atom_board.proofs.driver.drives.Given as goal

abbrev pub invariant-loop : goal.invariant-loop
invariant-loop g l =
    HasDriven g.C.Memory.acts l.shared l.fn.memory l.fn.local l.memory l.local
    × g.C.ThreadMemory.stands l.memory l.shared l.local
    × (l.teller.next ≤ commands_begun l.local)
    × (goal.iterator-loop g).can_next l.iterator' × (goal.iterator-loop g).is_finite l.iterator'
