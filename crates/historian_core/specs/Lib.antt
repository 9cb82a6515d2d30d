pub mod Windows
pub mod StoredReadings
pub mod ReportTexts
pub mod Lines
pub mod Reports
pub mod Stops
