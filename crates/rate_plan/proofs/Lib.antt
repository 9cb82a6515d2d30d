pub mod Plans
pub mod Rates
