pub mod DoneThreads
pub mod SameTurns
pub mod LeftTurns
pub mod Runs
pub mod ReplayEnds
