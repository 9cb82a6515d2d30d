pub mod EachInOrder
mod FreshMailThreads
mod MailThreadsDone
mod SaidByLogs
mod SpawnedThreads
mod Countable
