pub mod ChainSteps
pub mod BagIdSteps
pub mod ThemeSteps
pub mod StyleSteps
pub mod CourseSteps
pub mod ContentCourses
pub mod Courses
pub mod AttributeEnds
pub mod KeySteps
pub mod EndLayers
pub mod AttributeLayers
pub use Rattle.reference_resolver.proofs as reference_resolver_proofs
pub use Rattle.reference_resolver.proofs.config_record
