pub mod PairLists
pub mod PairPlaces
pub mod TableCalls
pub mod TableChains
