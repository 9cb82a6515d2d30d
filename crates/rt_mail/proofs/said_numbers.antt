pub mod NumberBounds
pub mod NumbersPerThread
