pub mod EndedRuns
