pub mod rows
pub mod tags
pub mod handles
pub mod rings
pub mod counters
