pub mod Bounds
pub mod Decoded
pub mod Doing
pub mod Opening
pub mod OneMore
