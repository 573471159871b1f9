-- What the words of `make` ask, from what the places have to the answer. First come the words of files, then the faults of
-- inputs, and then the first word that asks for no resource.
use Rattle.std.specs.Prelude.{◌≡◌, ℕ, ◌+◌, Bool, true, false, List, map, take, Option, Result, Ok}
use Rattle.contract_words.specs.Faults.{◌>>=◌}
use Rattle.command_base.specs.json_input.Each.{each}
use Rattle.command_base.specs.declared.fault.ToolFault.{ToolFault}
use Rattle.command_base.specs.declared.status.Status.{Status}
use Rattle.command_base.specs.declared.stop.Stop.{Stop}
use Rattle.command_base.specs.CarriesOut.{CarriesOut, read_or_stop, found_or_stop}
use Rattle.command_base.specs.FileWords.{goal_asked, texts_of}
use Rattle.command_base.specs.Inputs.{Places}
use Rattle.command_base.specs.Output.{Output}
use Rattle.command_base.specs.StackBytes.{LayerBytes}
use Rattle.command_base.specs.Stop.{StopOf}
use Rattle.command_base.specs.names.NamedGoals.{goals_named}
use Rattle.command_base.specs.answer_text.config_record.locales.declared.locale_rule.LocaleRule.{LocaleRule}
use Rattle.resource_text.specs.cert_maker.res_value.Goal.{GoalSeen, goal_seen}
use Rattle.resource_tool.specs.BoxFiles.{AskedBoxBytes, asked_box_files}
use Rattle.resource_tool.specs.declared.make.Make.{Make}
use Rattle.resource_tool.specs.declared.make.OpenMake.{OpenMake}
use Rattle.resource_tool.specs.Answered.{PrintsBothOneOf}
use Rattle.resource_tool.specs.MakeOutput.{MakeInputs, IsMakeAnswer, make_inputs_by}
use Rattle.resource_tool.specs.OmitOutput.{IsOmitOutput, LinesFirst}
use Rattle.resource_tool.specs.OpenedSeen.{opened_box}

-- layers and a box that were opened, and the goals that are asked for
pub record OpenMakeOf : Type 0 where
  pub opened : MakeInputs
  pub goals : List GoalSeen

abbrev pub make_seen : OpenMake → OpenMakeOf
make_seen make = record { opened = opened_box make.opened; goals = map goal_seen make.goals.items }

unfoldable pub make_opened : LocaleRule → List LayerBytes → List ℕ → List (List ℕ) → Result OpenMakeOf StopOf
make_opened rule layers box_json words = do
  named ← each goal_asked words
  opened ← read_or_stop (make_inputs_by rule layers box_json)
  goals ← found_or_stop (goals_named opened.stack named)
  Ok (record { opened = opened; goals = goals })

-- the first goals alone, at most so many
abbrev pub with_first : ℕ → OpenMakeOf → OpenMakeOf
with_first most make = record { opened = make.opened; goals = take most make.goals }

-- what was opened, with the first goals alone
abbrev pub first_opened : ℕ → Result OpenMakeOf StopOf → Result OpenMakeOf StopOf
first_opened most meant = meant >>= λ make. Ok (with_first most make)

-- how many goals are looked at (cited by contracts of this crate alone)
abbrev pub most_goals : Bool → ℕ → ℕ
most_goals true most = 18446744073709551615
most_goals false most = most + 1

-- What was opened, with the goals that are looked at. Where goals without a value are left out all are; else one more than there may
-- be nodes, since the tree of each goal has one at least (cited by contracts of this crate alone).
abbrev pub looked_at : Bool → ℕ → Result OpenMakeOf StopOf → Result OpenMakeOf StopOf
looked_at true most opened = opened
looked_at false most opened = first_opened (most + 1) opened

-- ---- the answer, with what errors get beside it

-- A terminal has shown how far the work is, and this holds of errors from then on. Where they are no terminal, it holds of
-- them as they were.
abbrev pub OnceShown : {V : Type 0} → Bool → V → (V → Type 0) → Type 0
OnceShown {V} is_terminal before Then = (shown : V) × (is_terminal ≡ false → shown ≡ before) × Then shown

-- One of some answers is printed, and from then on errors get what is told beside it, and nothing else.
abbrev pub PrintsTold : {W V X : Type 0} → Bool → (X → Output → List ℕ → Type 0) → (W → Option (List ℕ)) → (V → Option (List ℕ))
    → W → W → V → V → Result Status ToolFault → Result X ToolFault → Type 0
PrintsTold is_terminal Tells contents says old new before after result meant =
    OnceShown is_terminal before (λ shown. PrintsBothOneOf Tells contents says old new shown after result meant)

-- The same, and all is told before the answer is begun: where a line is lost, nothing is printed.
abbrev pub PrintsToldFirst : {W V X : Type 0} → Bool → (X → Output → List ℕ → Type 0) → (W → Option (List ℕ)) → (V → Option (List ℕ))
    → W → W → V → V → Result Status ToolFault → Result X ToolFault → Type 0
PrintsToldFirst is_terminal Tells contents says old new before after result meant =
    OnceShown is_terminal before
    (λ shown. PrintsBothOneOf Tells contents says old new shown after result meant × LinesFirst Tells says old new shown after meant)

-- what is printed and told: of all goals, or where goals without a value are left out
abbrev pub PrintsMade : {W V : Type 0} → Bool → Bool → Bool → ℕ → (W → Option (List ℕ)) → (V → Option (List ℕ)) → W → W → V → V → OpenMakeOf → Result Status ToolFault → Type 0
PrintsMade is_terminal false names most contents says old new before after make result =
    PrintsTold is_terminal (IsMakeAnswer make.goals most names) contents says old new before after result (Ok make.opened)
PrintsMade is_terminal true names most contents says old new before after make result =
    PrintsToldFirst is_terminal (IsOmitOutput make.goals most) contents says old new before after result (Ok make.opened)

-- ---- the whole

-- from what was opened, if it is
abbrev pub MakesOpened : {W V : Type 0} → Bool → Bool → Bool → ℕ → (W → Option (List ℕ)) → (V → Option (List ℕ)) → W → W → V → V → Result OpenMakeOf StopOf → Result Status Stop → Type 0
MakesOpened is_terminal omit names most contents says old new before after opened result =
    CarriesOut (PrintsMade is_terminal omit names most contents says old new before after) opened result

-- from the files, if they are read
abbrev pub MakesFiles : {W V : Type 0} → Bool → Make → (W → Option (List ℕ)) → (V → Option (List ℕ)) → W → W → V → V → Result AskedBoxBytes StopOf → Result Status Stop → Type 0
MakesFiles is_terminal make contents says old new before after read result =
    MakesOpened is_terminal make.omit make.names make.max_nodes contents says old new before after
    (read >>= λ files. make_opened make.locales files.layers files.box_json files.words) result

-- from what the places have
abbrev pub Makes : {W V : Type 0} → Bool → (W → Option (List ℕ)) → (V → Option (List ℕ)) → W → W → V → V → Places → Make → Result Status Stop → Type 0
Makes is_terminal contents says old new before after places make result =
    MakesFiles is_terminal make contents says old new before after
    (asked_box_files places make.layers.now make.box_path.now (texts_of make.goals)) result
