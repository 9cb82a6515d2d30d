use Rattle.std.proofs.Common.{refl}
use Rattle.block_store.specs.Widths.{payloads}
use Rattle.grey_steps.proofs.MarkUnits.{scan_goes_on, shading_goes_on, block_stays}
use Rattle.grey_steps.proofs.Pictures.{scan_keeps_names, shading_keeps_names}
use Rattle.grey_steps.proofs.names.rows_keep_the_names.Goals as goal

pub returns : goal.returns
returns c = record {
  scan = λ k g order h names tasks s hs f mark cycle. scan_keeps_names k g order h names tasks s f
      mark cycle hs;
  shade = λ k g order h names tasks s f mark cycle. shading_keeps_names k g order h names tasks s f
      mark cycle;
  scans = λ p. refl;
  still_scans = λ e s w. scan_goes_on (payloads e.width) s.pass.threads s.pass.cycle s.row w;
  shades = λ p y. (refl, refl);
  still_shades = λ e s w is. (
    shading_goes_on (payloads e.width) s.pass.threads s.pass.cycle s.row w is,
    block_stays (payloads e.width) s.pass.threads s.pass.cycle s.row w is,
  );
}
