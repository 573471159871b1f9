-- Facts of the crates below that functions of this crate cite.
pub use Rattle.command_base.proofs.answer_text_proofs.ItemSteps.{item_steps}
