pub mod Objects
pub mod Rows
pub mod Fits
pub mod Standing
pub mod LinearizationPoints
pub mod Naming
