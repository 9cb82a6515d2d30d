pub mod GraphAnswers
pub mod ComeBack
pub mod Leading
pub mod LifeUse
