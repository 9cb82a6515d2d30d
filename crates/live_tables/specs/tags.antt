pub mod Decoding
pub mod Live
pub mod Texts
