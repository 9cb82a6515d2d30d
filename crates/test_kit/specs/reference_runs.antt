pub mod Happenings
pub mod HistoryBounds
pub mod Making
