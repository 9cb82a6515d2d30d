pub mod RowsFit
pub mod GreyRuleKept
pub mod MarkUnits
pub mod Tricolours
pub mod Solids
pub mod AllRules
pub mod Reuses
pub mod Pictures
