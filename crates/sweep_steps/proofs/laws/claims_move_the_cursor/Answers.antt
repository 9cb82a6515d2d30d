use Rattle.sweep_steps.proofs.Cursor.{cursor_moves, left_moves, both_move, nothing_behind}
use Rattle.sweep_steps.proofs.laws.claims_move_the_cursor.Goals as goal

pub returns : goal.returns
returns c = record {
  claimed = cursor_moves;
  left = left_moves;
  both = both_move;
  nothing = nothing_behind;
}
