pub mod TrendLists
pub mod TrendHeaps
pub mod TrendOpens
pub mod TrendCalls
