use Rattle.grey_steps.proofs.RowsFit.{scan_fits, shade_fits, next_fits, place_fits, sum_fits, stores_held}
use Rattle.grey_steps.proofs.laws.rows_stay_in_the_heap.Goals as goal

pub returns : goal.returns
returns c = record {
  scan = scan_fits;
  shade = shade_fits;
  next = next_fits;
  place = place_fits;
  sum = sum_fits;
  stores = stores_held;
}
