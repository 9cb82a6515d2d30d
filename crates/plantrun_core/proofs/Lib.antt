pub mod SameWorker
pub mod WorkersApart
pub mod OrderOfLogs
pub mod Lines
pub mod LogOfTicks
pub mod WorkerLogs
pub mod EndOfPlant
