pub mod Circling
pub mod Rounds
pub mod NumberRings
