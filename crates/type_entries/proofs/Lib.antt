pub mod TypeSteps
pub mod EntryOffsetSteps
pub mod EntrySteps
pub mod EntriesSteps
pub mod TypeRowsSteps
pub mod OwnSteps
pub mod WrongSteps
