pub mod EventsInARow
pub mod RunEvents
pub mod AtOnce
pub mod WaitingTurns
pub mod TurnFacts
pub mod Rooms
