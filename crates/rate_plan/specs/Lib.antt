pub mod Rates
pub mod solo_bound
