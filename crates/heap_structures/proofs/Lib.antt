pub mod Renewed
pub mod cell_arrays
pub mod tables
pub mod maps
pub mod rings
pub mod alarm_lists
pub mod trends
