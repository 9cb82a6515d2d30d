pub mod Makes
pub mod Decoding
pub mod Live
pub mod Kept
pub mod Texts
