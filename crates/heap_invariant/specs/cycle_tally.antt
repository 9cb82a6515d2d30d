pub mod Tallies
pub mod Entries
pub mod Events
pub mod TallyInvariant
pub mod Bounds
pub mod InUse
pub mod InitialHeaps
pub mod Example
