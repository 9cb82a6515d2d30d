pub mod Moves
pub mod Enter
pub mod Leave
pub mod Mark
pub mod Sweep
pub mod Build
pub mod Access
pub mod PhaseChange
