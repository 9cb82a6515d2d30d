pub mod Moments
pub mod Figures
pub mod Counting
pub mod Blocks
pub mod Prices
pub mod NeedTexts
pub mod Answers
