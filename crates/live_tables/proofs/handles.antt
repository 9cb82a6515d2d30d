pub mod Makes
pub mod Bounds
pub mod Decoded
pub mod Filled
pub mod Doing
pub mod Opening
