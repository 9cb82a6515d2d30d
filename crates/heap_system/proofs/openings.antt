pub mod OpeningArrays
pub mod InitialHeaps
pub mod InitialGreyRoots
pub mod SystemStart
pub mod TextLives
pub mod Jobs
