pub mod HeldWords
pub mod WayToLink
