use Rattle.std.proofs.Common.{refl}
use Rattle.grey_steps.specs.Rows.{shading}
use Rattle.grey_steps.proofs.MarkUnits.{shade_is_over}
use Rattle.grey_steps.proofs.Tricolours.{keeps_tricolour, scan_over_none, shaded_dark, shade_dark, blackened_whole}
use Rattle.grey_steps.proofs.laws.rows_keep_tricolour.Goals as goal

pub returns : goal.returns
returns c = record {
  kept = keeps_tricolour;
  scan = λ e p. refl;
  shade = λ e p y. refl;
  scan_over = scan_over_none;
  shade_over = λ e p y ws. shade_is_over e y (shading p y) refl ws;
  shaded = shaded_dark;
  not_white = shade_dark;
  black = blackened_whole;
}
