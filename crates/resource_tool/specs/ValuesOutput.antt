-- What the command `values` prints.
use Rattle.std.specs.Prelude.{◌≡◌, ℕ, ◌<◌, ◌≤◌, ◌==◌, List, [], ◌∷◌, ◌++◌, map, length, Option, Some, None, codes, if◌then◌else◌}
use Rattle.std.specs.Fmt.{decimal}
use Rattle.std.specs.List.{AllZip}
use Rattle.command_base.specs.Output.{Output}
use Rattle.command_base.specs.SetAside.{rows_set_aside}
use Rattle.command_base.specs.declared.status.Status.TheVariants.{Done, Negative}
use Rattle.answer_text.specs.ContentAt.{content_at}
use Rattle.resource_text.specs.declared.line_form.LineForm.{LineForm}
use Rattle.resource_text.specs.declared.line_form.LineForm.TheVariants.{Text, Json}
use Rattle.stack_diff.specs.cert_maker.res_value.declared.res_id.ResId.{ResId}
use Rattle.stack_diff.specs.config_box.box_answers.NumberSet.{SetOf}
use Rattle.stack_diff.specs.config_box.config_record.locales.declared.locale_rule.LocaleRule.{LocaleRule}
use Rattle.stack_diff.specs.names.Laws.{id_of}
use Rattle.stack_diff.specs.names.Pairs.{PairOf}
use Rattle.stack_diff.specs.names.Shared.{shared_ids}
use Rattle.stack_diff.specs.Stacks.{StacksOf}
use Rattle.stack_diff.specs.Values.{SaidOf, change_of_said, AreValues}
use Rattle.resource_tool.specs.DiffInputs.{DiffInputs}
use Rattle.resource_tool.specs.DiffLines.{label_lines}
use Rattle.resource_tool.specs.DiffOutput.{node_limit_line}
use Rattle.resource_tool.specs.JsonLines.{values_json}
use Rattle.resource_tool.specs.Telling.{ToldOf, changes_told, HaveTrees}

-- ---- what is told

-- All that the resource says is told for which its label stands in the stack: on each device of the box in one block of lines, and
-- in one alone.
pub record IsValued (form : LineForm) (stacks : StacksOf) (sets : List SetOf) (pair : PairOf) (told : ToldOf) : Type 0 where
  pub id : ResId
  pub called : id_of stacks.new pair.label ≡ Some id
  pub values : List SaidOf
  pub right : AreValues (content_at stacks.new id.0) sets values
  pub in_blocks : told ≡ changes_told form stacks.packages sets (map change_of_said values)

-- so it is of each label, with trees within the limit; or there are such trees above it
abbrev pub AreValued : LineForm → StacksOf → List SetOf → List PairOf → ℕ → Option (List ToldOf) → Type 0
AreValued form stacks sets pairs most (Some told) = AllZip (IsValued form stacks sets) pairs told × HaveTrees stacks sets pairs (λ nodes. nodes ≤ most)
AreValued form stacks sets pairs most None = HaveTrees stacks sets pairs (λ nodes. most < nodes)

-- ---- in lines

-- the line `WORDS N`, unless that is 0
unfoldable pub count_line : List ℕ → ℕ → List ℕ
count_line words count = if count == 0 then [] else words ++ codes " " ++ decimal count ++ 10 ∷ []

-- the line `resources N`
unfoldable pub resources_line : ℕ → List ℕ
resources_line count = codes "resources " ++ decimal count ++ 10 ∷ []

-- the blocks of each label, with the label before each; then what holds of the stack, and then how many labels are told
unfoldable pub values_lines : LocaleRule → StacksOf → List PairOf → List ToldOf → List ℕ
values_lines rule stacks pairs told =
    label_lines [] stacks.packages pairs told ++ count_line (codes "warning shared-names") (length (shared_ids stacks.new))
    ++ count_line (codes "set-aside") (rows_set_aside rule stacks.new) ++ resources_line (length pairs)

unfoldable pub lines_of_values : LineForm → LocaleRule → StacksOf → List PairOf → List ToldOf → List ℕ
lines_of_values (Text form) rule stacks pairs told = values_lines rule stacks pairs told
lines_of_values Json rule stacks pairs told = values_json rule stacks pairs told

-- it is done; or the line `node limit`
abbrev pub values_output : LineForm → LocaleRule → StacksOf → List PairOf → Option (List ToldOf) → Output
values_output form rule stacks pairs (Some told) = record { status = Done; text = lines_of_values form rule stacks pairs told }
values_output form rule stacks pairs None = record { status = Negative; text = node_limit_line form }

-- What is printed of some labels in a form tells all that their resources say, on which devices of the box; or trees for them have
-- more nodes than the limit.
pub record IsValuesOutput (form : LineForm) (pairs : List PairOf) (most : ℕ) (inputs : DiffInputs) (output : Output) : Type 0 where
  pub told : Option (List ToldOf)
  pub right : AreValued form inputs.stacks inputs.sets pairs most told
  pub printed : output ≡ values_output form inputs.rule inputs.stacks pairs told
