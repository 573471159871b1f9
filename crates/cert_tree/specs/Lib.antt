pub mod Certificate
pub mod ReadOn
pub mod CertJson
pub mod Kept
pub mod KeptGoals
pub mod KeptCert
pub mod WrittenJson
pub mod ReadsBack
pub mod NodeKinds
pub mod Unfolded
pub use Rattle.config_box.specs as config_box
pub use Rattle.config_box.specs.box_answers
pub use Rattle.res_value.specs as res_value
pub use Rattle.res_value.specs.chunk_walk
pub use Rattle.json_input.specs as json_input
pub use Rattle.json_tokens.specs as json_tokens
