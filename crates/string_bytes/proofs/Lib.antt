pub mod ClosingSteps
