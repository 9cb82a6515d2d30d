pub mod Shown
pub mod HistoryOfJob
