pub mod AlarmLists
pub mod AlarmMoves
pub mod AlarmCalls
