pub mod Slots
pub mod LineLaws
pub mod HandleScripts
pub mod SlotRuns
