use Rattle.barrier_steps.proofs.FieldRows.{first_fits, field_fits, place_at, sum_at, stores_at}
use Rattle.barrier_steps.proofs.laws.rows_stay_in_the_heap.Goals as goal

pub returns : goal.returns
returns c = record {
  first = first_fits;
  next = field_fits;
  place = λ c f. place_at c f.pass f.command f.row;
  sum = λ c f. sum_at c f.pass f.command f.row;
  stores = λ c f. stores_at c f.pass f.command f.row;
}
