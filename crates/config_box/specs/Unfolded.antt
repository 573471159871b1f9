-- Definitions of the crates below that functions of this crate unfold.
unfoldable pub use Rattle.box_answers.specs.config_record.Coord.{all_coords}
