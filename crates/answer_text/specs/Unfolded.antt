-- Definitions of the crates below that functions of this crate unfold.
unfoldable pub use Rattle.bags_themes.specs.string_pool.Shown.{string_text}
