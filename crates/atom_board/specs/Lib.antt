pub mod Boards
pub mod Drives
pub mod LoneTurns
pub mod Mutators
pub mod Ports
pub mod ThreadMemories
pub mod threaded_runs
