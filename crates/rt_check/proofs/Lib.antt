pub mod Goodness
pub mod ItemOfLine
mod GoodOrFirstBad
pub mod FollowerState
pub mod GoodLaws
pub mod InputParts
pub mod TokensLeft
pub mod TakenLaws
pub mod VerdictSoFar
pub mod AnswerSoFar
pub mod OneTaken
pub mod OneAnswer
pub mod Causes
pub mod CarriedOut
