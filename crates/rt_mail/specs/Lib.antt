pub mod Says
pub mod RefusedTexts
pub mod Recalled
pub mod Tellings
pub mod MailCalls
pub mod mail_post
pub mod said_numbers
pub mod mail_runs
