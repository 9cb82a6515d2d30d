pub mod Moves
pub mod Near
pub mod Prices
