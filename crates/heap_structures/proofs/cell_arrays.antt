pub mod CellMoves
pub mod Answered
pub mod Chained
pub mod NoAllocation
pub mod Opening
pub mod ValuesMoveUp
