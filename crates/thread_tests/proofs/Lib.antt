pub mod WorkersOfHeap
pub mod Pairs
