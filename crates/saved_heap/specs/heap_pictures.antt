pub mod Pictures
pub mod UpToNames
pub mod Spelling
pub mod Reading
pub mod Plans
pub mod Faults
pub mod Following
pub mod Needs
