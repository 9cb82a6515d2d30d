pub mod OrderGrowth
pub mod OrderKept
pub mod LoggedTraces
pub mod FinishedRun
pub mod TraceSums
pub mod FirstCommands
