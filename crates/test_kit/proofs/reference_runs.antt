pub mod ListRemainder
pub mod ReplayInRange
pub mod Fronts
pub mod Legality
pub mod HistoryOfOrder
