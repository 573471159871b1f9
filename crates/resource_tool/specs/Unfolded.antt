-- Definitions of the crates below that functions of this crate unfold.
unfoldable pub use Rattle.command_base.specs.cert_tree.config_box.config_record.Coord.{all_coords}
unfoldable pub use Rattle.resource_tool.specs.Finding.{all_findings}
