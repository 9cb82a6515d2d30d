pub mod operations
pub mod tag_table
pub mod handle_table
pub mod number_rings
