pub mod Invariant
pub mod InvariantByTurns
pub mod InvariantHolds
pub mod SeenAndKept
pub mod RunLaws
