-- Definitions of the crates below that functions of this crate unfold.
unfoldable pub use Rattle.stack_diff.specs.config_box.config_record.Coord.{all_coords}
unfoldable pub use Rattle.answer_text.specs.ValueText.{value_content_text}
