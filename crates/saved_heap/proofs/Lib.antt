pub mod Walking
pub mod Pictured
pub mod Copied
pub mod Followed
pub mod Loaded
pub mod PlanTakes
pub mod Enough
pub mod Least
