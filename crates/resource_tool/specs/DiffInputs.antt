-- What two stacks of layers and a box are compared by.
use Rattle.std.specs.Prelude.{ℕ, Bool, ◌&&◌, List, ◌++◌, Result, Ok}
use Rattle.std.specs.Cmp.Lexicographic.{pointwise}
use Rattle.std.specs.Option.{option_eq}
use Rattle.std.specs.Str.{bytes_eq}
use Rattle.contract_words.specs.Faults.{◌>>=◌}
use Rattle.stack_diff.specs.config_box.config_record.locales.declared.locale_rule.LocaleRule.{LocaleRule}
use Rattle.stack_diff.specs.config_box.box_answers.NumberSet.{SetOf}
use Rattle.stack_diff.specs.config_box.BoxJson.{box_in_by}
use Rattle.command_base.specs.declared.fault.ToolFault.{ToolFault}
use Rattle.command_base.specs.declared.side.Side.TheVariants.{Old, New}
use Rattle.command_base.specs.ToolFault.{fault_of_box}
use Rattle.command_base.specs.StackBytes.{LayerBytes, stack_on_side}
use Rattle.command_base.specs.MapErr.{map_err}
use Rattle.stack_diff.specs.ComparedWith.{itself_if}
use Rattle.stack_diff.specs.Stacks.{StacksOf}
use Rattle.stack_diff.specs.names.NamedIds.{packages_of}

-- layer by layer the bytes of the tables and of the id maps are the same
abbrev pub is_same_layer : LayerBytes → LayerBytes → Bool
is_same_layer old new = bytes_eq old.table new.table && option_eq bytes_eq old.map new.map

unfoldable pub have_same_bytes : List LayerBytes → List LayerBytes → Bool
have_same_bytes old new = pointwise is_same_layer old new

-- the stacks before a change and after it, which are one where their layers have the same bytes; the sets of a box, and the
-- rule by which its locales are compared
pub record DiffInputs : Type 0 where
  pub stacks : StacksOf
  pub sets : List SetOf
  pub rule : LocaleRule

-- What these layers and a box's text mean, whose locales are read by this rule, or the first fault. The old layers are read
-- first, and the box last.
unfoldable pub diff_inputs_by : LocaleRule → List LayerBytes → List LayerBytes → List ℕ → Result DiffInputs ToolFault
diff_inputs_by rule old_bytes new_bytes box_json = do
  old ← stack_on_side Old old_bytes
  new ← stack_on_side New new_bytes
  sets ← map_err fault_of_box (box_in_by rule box_json)
  Ok (record { stacks = record { old = old; new = new; packages = packages_of old ++ packages_of new; compared = itself_if (have_same_bytes old_bytes new_bytes) }; sets = sets; rule = rule })
