pub mod Common
pub mod Decisions
pub mod FieldRows
pub mod RowEvents
pub mod RowReads
pub mod RepliesDue
pub mod PhaseRulesKept
pub mod NameRulesKept
