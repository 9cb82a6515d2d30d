pub mod PartLemmas
pub mod Lists
pub mod Paths
pub mod Parts
