pub mod FaultSteps
pub mod SequenceSteps
pub mod TextSteps
