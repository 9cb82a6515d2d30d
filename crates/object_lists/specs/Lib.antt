pub mod Parts
pub mod Layouts
pub mod Records
