pub mod NodeLimits
pub mod Written
pub mod WordSteps
pub mod Rows
pub mod CommandLineFacts
pub mod NamedCommand
mod IdTexts
mod GoalWords
mod Unread
mod LeftLines
mod Beside
