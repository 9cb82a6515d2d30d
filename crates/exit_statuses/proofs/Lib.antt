pub mod ExitStatuses
pub mod WholeTexts
