-- What the command `diff` prints.
use Rattle.std.specs.Prelude.{◌≡◌, ℕ, List, [], ◌∷◌, ◌++◌, Option, Some, None, codes}
use Rattle.command_base.specs.declared.status.Status.TheVariants.{Negative}
use Rattle.command_base.specs.Output.{Output, negative_if}
use Rattle.resource_text.specs.declared.line_form.LineForm.{LineForm}
use Rattle.resource_text.specs.declared.line_form.LineForm.TheVariants.{Text, Json}
use Rattle.stack_diff.specs.config_box.config_record.locales.declared.locale_rule.LocaleRule.{LocaleRule}
use Rattle.stack_diff.specs.names.Pairs.{PairOf}
use Rattle.stack_diff.specs.Stacks.{StacksOf}
use Rattle.resource_tool.specs.DiffInputs.{DiffInputs}
use Rattle.resource_tool.specs.DiffLines.{some_differ, diff_lines}
use Rattle.resource_tool.specs.JsonLines.{node_limit_json, diff_json}
use Rattle.resource_tool.specs.Telling.{ToldOf, AreTold}

-- the line `node limit`
abbrev pub node_limit_line : LineForm → List ℕ
node_limit_line (Text form) = codes "node limit" ++ 10 ∷ []
node_limit_line Json = node_limit_json

-- the lines of what is told, in a form; a text's values and devices are in its blocks already
unfoldable pub lines_of_told : LineForm → LocaleRule → StacksOf → List PairOf → List ToldOf → List ℕ
lines_of_told (Text form) rule stacks pairs told = diff_lines rule stacks pairs told
lines_of_told Json rule stacks pairs told = diff_json rule stacks pairs told

-- what is told of labels, in lines, and it is done where nothing differs; or the line `node limit`
abbrev pub told_output : LineForm → LocaleRule → StacksOf → List PairOf → Option (List ToldOf) → Output
told_output form rule stacks pairs (Some told) = record { status = negative_if (some_differ told); text = lines_of_told form rule stacks pairs told }
told_output form rule stacks pairs None = record { status = Negative; text = node_limit_line form }

-- What is printed of some labels in a form tells exactly what becomes of each, on which devices of the box; or trees for them have more
-- nodes than the limit.
pub record IsDiffOutput (form : LineForm) (pairs : List PairOf) (most : ℕ) (inputs : DiffInputs) (output : Output) : Type 0 where
  pub told : Option (List ToldOf)
  pub right : AreTold form inputs.stacks inputs.sets pairs most told
  pub printed : output ≡ told_output form inputs.rule inputs.stacks pairs told
