use Rattle.heap_system.proofs.Lemmas.{long_in_bounds}
use Rattle.heap_tests.proofs.ways.an_element_is_reached_in_two_words_more_than_the_depth.Goals as goal

pub plan-requires : goal.plan-requires
plan-requires g c = long_in_bounds
