-- Definitions of the crates below that functions of this crate unfold.
unfoldable pub use Rattle.reference_resolver.specs.overlay_map.IdMap.{look_of}
