-- What the command `make` prints.
use Rattle.std.specs.Prelude.{◌≡◌, ℕ, ◌≤◌, Bool, List, [], ◌∷◌, ◌++◌, codes, Option, Some, None, Result, Ok}
use Rattle.std.specs.Fmt.{decimal}
use Rattle.std.specs.List.{All}
use Rattle.serde_json.specs.Written.{compact_text}
use Rattle.contract_words.specs.Faults.{◌>>=◌}
use Rattle.command_base.specs.answer_text.config_record.DeviceSeen.{device_numbers}
use Rattle.command_base.specs.answer_text.config_record.locales.declared.locale_rule.LocaleRule.{LocaleRule}
use Rattle.command_base.specs.answer_text.config_record.locales.declared.locale_rule.LocaleRule.TheVariants.{LanguageAndRegion}
use Rattle.resource_text.specs.cert_maker.box_answers.NumberSet.{SetOf}
use Rattle.resource_text.specs.cert_maker.config_box.BoxJson.{box_in_by}
use Rattle.command_base.specs.overlay_map.Layer.{LayerOf}
use Rattle.command_base.specs.answer_text.reference_resolver.declared.end.End.{End}
use Rattle.resource_text.specs.cert_maker.cert_tree.Certificate.{GoalOf, GoalFits, goals_of, most_nodes}
use Rattle.resource_text.specs.cert_maker.res_value.Goal.{GoalSeen}
use Rattle.resource_text.specs.cert_maker.cert_tree.CertJson.{cert_in_by}
use Rattle.resource_text.specs.cert_maker.cert_tree.WrittenJson.{cert_data}
use Rattle.resource_text.specs.cert_maker.cert_checker.FirstFault.{IsAccepted}
use Rattle.resource_text.specs.cert_maker.declared.made.Made.{Made}
use Rattle.resource_text.specs.cert_maker.declared.made.Made.TheVariants.{Cert, Counter, NodeLimit}
use Rattle.resource_text.specs.cert_maker.Made.{IsMade}
use Rattle.resource_text.specs.cert_maker.Least.{IsLeast}
use Rattle.command_base.specs.declared.fault.ToolFault.{ToolFault}
use Rattle.command_base.specs.ToolFault.{fault_of_box}
use Rattle.resource_text.specs.VerdictText.{device_with_end}
use Rattle.command_base.specs.declared.status.Status.{Status}
use Rattle.command_base.specs.declared.status.Status.TheVariants.{Done, Negative}
use Rattle.command_base.specs.Output.{Output}
use Rattle.command_base.specs.StackBytes.{LayerBytes, stack_in}
use Rattle.command_base.specs.MapErr.{map_err}
use Rattle.resource_tool.specs.GoalTold.{goal_told}

-- ---- the inputs

-- layers, the sets of a box, and the rule by which its locales are compared
pub record MakeInputs : Type 0 where
  pub stack : List LayerOf
  pub sets : List SetOf
  pub rule : LocaleRule

-- What these layers and a box's text mean, whose locales are read by this rule, or the first fault. The layers are read before
-- the box.
unfoldable pub make_inputs_by : LocaleRule → List LayerBytes → List ℕ → Result MakeInputs ToolFault
make_inputs_by rule layers box_json = do
  stack ← stack_in layers
  sets ← map_err fault_of_box (box_in_by rule box_json)
  Ok (record { stack = stack; sets = sets; rule = rule })

-- by language and region
abbrev pub make_inputs : List LayerBytes → List ℕ → Result MakeInputs ToolFault
make_inputs = make_inputs_by LanguageAndRegion

-- ---- the output

-- it is done where there is a certificate
abbrev pub status_of_made : Made → Status
status_of_made (Cert certificate) = Done
status_of_made (Counter goal device end) = Negative
status_of_made NodeLimit = Negative

-- a certificate in one line
unfoldable pub certificate_line : List GoalOf → List ℕ
certificate_line trees = compact_text (cert_data trees) ++ 10 ∷ []

-- the line `counter goal G`; goals are counted from 0
unfoldable pub counterexample_line : ℕ → List ℕ
counterexample_line goal = codes "counter goal " ++ decimal goal ++ 10 ∷ []

-- a goal, a device for which it ends at no value, and that end
unfoldable pub counterexample_text : ℕ → List ℕ → End → List ℕ
counterexample_text goal d end = counterexample_line goal ++ device_with_end d end

unfoldable pub made_text : Made → List ℕ
made_text (Cert certificate) = certificate_line (goals_of certificate)
made_text (Counter goal device end) = counterexample_text goal (device_numbers device) end
made_text NodeLimit = codes "node limit" ++ 10 ∷ []

abbrev pub made_output : Made → Output
made_output made = record { status = status_of_made made; text = made_text made }

-- a text is read by that rule as a certificate that is accepted for the layers, the box and the goals
pub record IsReadAccepted (asked : List GoalSeen) (inputs : MakeInputs) (text : List ℕ) : Type 0 where
  pub trees : List GoalOf
  pub means : cert_in_by inputs.rule text ≡ Ok trees
  pub accepted : IsAccepted inputs.stack inputs.sets asked trees

-- An answer is printed that the maker may give for the layers, the box, the goals and the limit of nodes. Where that is done,
-- with a limit and goals that a certificate can have, what is printed is read as a certificate that is accepted.
pub record IsMakeOutput (asked : List GoalSeen) (most : ℕ) (inputs : MakeInputs) (output : Output) : Type 0 where
  pub made : Made
  pub right : IsMade inputs.stack inputs.sets asked most made
  pub least : IsLeast inputs.stack inputs.sets asked most made
  pub printed : output ≡ made_output made
  pub reads_back : output.status ≡ Done → most ≤ most_nodes → All GoalFits asked → IsReadAccepted asked inputs output.text

-- ---- the goal that it is about

-- that of a counterexample
abbrev pub goal_of_made : Made → Option ℕ
goal_of_made (Cert certificate) = None
goal_of_made (Counter goal device end) = Some goal
goal_of_made NodeLimit = None

-- an answer that may be printed, and this is the goal that it is about
pub record IsMakeOutputAbout (asked : List GoalSeen) (most : ℕ) (about : Option ℕ) (inputs : MakeInputs) (output : Output) : Type 0 where
  pub printed : IsMakeOutput asked most inputs output
  pub goal : about ≡ goal_of_made printed.made

-- an answer that may be printed, and these lines are said of its goal
pub record IsMakeAnswer (asked : List GoalSeen) (most : ℕ) (names : Bool) (inputs : MakeInputs) (output : Output) (lines : List ℕ) : Type 0 where
  pub printed : IsMakeOutput asked most inputs output
  pub told : lines ≡ goal_told inputs.stack asked names (goal_of_made printed.made)
