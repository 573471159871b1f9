pub mod IdText
pub mod MapRowsSteps
mod GoalEquality
mod GoalWordSteps
