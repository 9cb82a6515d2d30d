use Rattle.shared_heap.proofs.Prefixes.{fits_one, fits_order}
use Rattle.shared_heap.proofs.laws.what_was_answered_fits_one_history.Goals as goal

pub returns : goal.returns
returns _ k s kept = (fits_one k s kept, fits_order k s kept)
