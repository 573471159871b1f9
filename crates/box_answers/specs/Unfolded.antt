-- Definitions of the crates below that functions of this crate unfold.
unfoldable pub use Rattle.config_precedence.specs.config_match.Matching.{is_match}
unfoldable pub use Rattle.config_precedence.specs.config_record.Coord.{all_coords}
unfoldable pub use Rattle.config_precedence.specs.config_match.Kind.{kind_answer}
unfoldable pub use Rattle.config_precedence.specs.config_match.Rule.{rule_answer}
