pub mod Slots
pub mod Lines
pub mod Scripts
pub mod Tellings
pub mod HandleCalls
