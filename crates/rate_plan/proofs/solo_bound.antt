pub mod Fresh
pub mod Near
pub mod Prices
pub mod NearSmall
