use Rattle.std.proofs.Common.{◌≤◌}
use Rattle.atom_board.proofs.MutatorsInOrder.{IsSorted}
use Rattle.atom_board.proofs.board.ordered.Given as goal

abbrev pub invariant-loop-t : goal.invariant-loop-t
invariant-loop-t l = (l.t ≤ l.threads) × IsSorted l.t l.threads l.mutators.items l.fn.who.items
