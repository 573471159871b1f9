pub mod BitSteps
pub mod SpanSteps
pub mod UnitSteps
pub mod ByteTexts
pub mod PlainTexts
pub mod WriteSteps
pub mod UnitTexts
pub mod Ranges
