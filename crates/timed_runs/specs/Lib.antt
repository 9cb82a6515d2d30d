pub mod TimedCalls
pub mod Kinds
pub mod Lines
pub mod Samples
pub mod Turns
pub mod time_histograms
