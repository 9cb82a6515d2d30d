pub mod Operands
pub mod Walks
pub mod Rows
pub mod Fits
pub mod Deciding
pub mod Replies
pub mod Projection
pub mod Decided
