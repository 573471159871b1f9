-- Definitions of the crates below that functions of this crate unfold.
unfoldable pub use Rattle.config_record.specs.Coord.{all_coords}
