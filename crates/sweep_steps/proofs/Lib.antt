pub mod RowsFit
pub mod ReuseRulesKept
pub mod FreedBlocks
pub mod PassedBlocks
pub mod Pictures
pub mod Cursor
