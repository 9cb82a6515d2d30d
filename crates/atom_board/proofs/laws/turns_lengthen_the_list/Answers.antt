use Rattle.atom_board.proofs.Steps.{turn_keeps}
use Rattle.atom_board.proofs.laws.turns_lengthen_the_list.Goals as goal

pub returns : goal.returns
returns _ k s kept id n l may = (turn_keeps k s kept id n l may).0
