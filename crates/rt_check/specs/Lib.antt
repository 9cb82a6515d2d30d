pub mod Good
pub mod Inputs
pub mod Answers
pub mod Standing
pub mod Moves
pub mod Taken
pub mod Taking
pub mod rt_limit
