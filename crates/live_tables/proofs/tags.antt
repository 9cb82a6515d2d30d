pub mod Decoded
pub mod Doing
pub mod Opening
pub mod FewOperations
