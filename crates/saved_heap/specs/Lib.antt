pub mod SearchOrder
pub mod Walks
pub mod Renewals
pub mod Follows
pub mod Faults
pub mod Enough
pub mod heap_pictures
pub mod recorded_heap
