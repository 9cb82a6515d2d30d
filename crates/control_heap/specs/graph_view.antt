pub mod ShownGraph
pub mod RunsOfCommands
