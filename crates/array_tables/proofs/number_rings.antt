pub mod Chunks
pub mod OwnPlaces
pub mod LastEight
pub mod RingRuns
pub mod Jobs
pub mod TracesSoFar
pub mod RingTable
