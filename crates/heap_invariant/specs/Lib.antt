pub mod graph_relation
pub mod name_invariant
pub mod cycle_tally
