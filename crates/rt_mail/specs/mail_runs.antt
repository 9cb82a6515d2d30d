pub mod Rooms
pub mod MailThreads
pub mod Spawned
