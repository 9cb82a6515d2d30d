use Rattle.sweep_steps.proofs.RowsFit.{first_fits, fits_next, place_fits, sum_fits}
use Rattle.sweep_steps.proofs.laws.rows_stay_in_the_heap.Goals as goal

pub returns : goal.returns
returns c = record { first = first_fits; next = fits_next; place = place_fits; sum = sum_fits }
