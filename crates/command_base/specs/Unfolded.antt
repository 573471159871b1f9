-- Definitions of the crates below that functions of this crate unfold.
unfoldable pub use Rattle.command_base.specs.answer_text.DumpText.{names_text}
