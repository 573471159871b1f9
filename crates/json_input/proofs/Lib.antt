pub mod ValueLemmas
pub mod EachSteps
pub mod EachLeft
pub mod LineFeed
