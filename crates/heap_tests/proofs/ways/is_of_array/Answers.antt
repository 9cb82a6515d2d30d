use Rattle.heap_system.proofs.Lemmas.{long_in_bounds}
use Rattle.heap_tests.proofs.ways.is_of_array.Goals as goal

pub new-places-requires : goal.new-places-requires
new-places-requires c = long_in_bounds
