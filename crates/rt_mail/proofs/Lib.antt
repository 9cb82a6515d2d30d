pub mod RingJob
pub mod WrittenLines
pub mod Apart
pub mod KeepableMail
pub mod CarriedOut
