pub mod Linearizations
pub mod Applications
pub mod RunPrefixes
