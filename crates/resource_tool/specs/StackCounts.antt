-- What is counted of a stack. (Cited by contracts of this crate alone.)
use Rattle.std.specs.Prelude.{List, length}
use Rattle.command_base.specs.SetAside.{rows_set_aside}
use Rattle.command_base.specs.overlay_map.Layer.{LayerOf}
use Rattle.stack_diff.specs.config_box.config_record.locales.declared.locale_rule.LocaleRule.{LocaleRule}
use Rattle.stack_diff.specs.names.Shared.{shared_ids}
use Rattle.resource_tool.specs.declared.stack_counts.StackCounts.{StackCounts}

abbrev pub counts_of : LocaleRule → List LayerOf → StackCounts
counts_of rule stack = record { shared_names = length (shared_ids stack); set_aside = rows_set_aside rule stack }
