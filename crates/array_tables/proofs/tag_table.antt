pub mod TagRows
pub mod Chunks
pub mod TableApplication
pub mod Jobs
pub mod AnswersSoFar
