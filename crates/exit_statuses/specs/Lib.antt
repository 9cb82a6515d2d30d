pub mod Sides
pub mod Refusals
pub mod Exits
pub mod program_words
