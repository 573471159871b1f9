-- Why the lines of a survey tell its status.
use Rattle.std.specs.Prelude.{◌≡◌, ℕ, ◌==◌, ◌&&◌, not, Bool, List}
use Rattle.std.specs.List.{list_any}
use Rattle.command_base.specs.cert_tree.config_box.config_record.locales.declared.locale_rule.LocaleRule.{LocaleRule}
use Rattle.command_base.specs.overlay_map.Layer.{LayerOf}
use Rattle.command_base.specs.StackBytes.{LayerBytes}
use Rattle.resource_tool.specs.declared.survey.finding.Finding.{Finding}
use Rattle.resource_tool.specs.Finding.{all_findings, differs}
use Rattle.resource_tool.specs.Findings.{Note}
use Rattle.resource_tool.specs.Counted.{notes_with, tally_of}
use Rattle.resource_tool.specs.LayerNotes.{notes_of_layer, layer_differs}

-- a finding of some notes has a line, and that is a warning
abbrev pub is_warned : List Note → Finding → Bool
is_warned notes finding = differs finding && not ((tally_of (notes_with finding notes)).count == 0)

-- An answer can differ by a layer exactly where one of the layer's lines is a warning.
abbrev pub WarningsTell : Type 0
WarningsTell =
    (rule : LocaleRule) (stack : List LayerOf) (locales : List ℕ) (numbered : ℕ × LayerBytes)
    → layer_differs rule stack locales numbered ≡ list_any (is_warned (notes_of_layer rule stack locales numbered)) all_findings
