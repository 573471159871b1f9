-- What the command `make` prints where it leaves goals out.
use Rattle.std.specs.Prelude.{◌≡◌, ◌⊎◌, ℕ, ◌≤◌, List, [], ◌∷◌, ◌++◌, codes, Option, Some, Result, Ok}
use Rattle.std.specs.Io.KnownBytes.{Appends}
use Rattle.std.specs.List.{All, flat_map}
use Rattle.command_base.specs.answer_text.config_record.DeviceSeen.{device_numbers}
use Rattle.command_base.specs.overlay_map.Layer.{LayerOf}
use Rattle.resource_text.specs.cert_maker.cert_tree.Certificate.{GoalOf, GoalFits, goals_of, most_nodes}
use Rattle.resource_text.specs.cert_maker.res_value.Goal.{GoalSeen}
use Rattle.resource_text.specs.cert_maker.declared.made.Made.TheVariants as made
use Rattle.resource_text.specs.cert_maker.declared.omitted.Omitted.{Omitted}
use Rattle.resource_text.specs.cert_maker.declared.omitted.Omitting.{Omitting}
use Rattle.resource_text.specs.cert_maker.declared.omitted.Omitting.TheVariants.{Cert, NodeLimit}
use Rattle.resource_text.specs.cert_maker.Omitting.{IsOmitting, places_of, without}
use Rattle.resource_text.specs.VerdictText.{device_with_end}
use Rattle.command_base.specs.declared.fault.ToolFault.{ToolFault}
use Rattle.command_base.specs.declared.status.Status.TheVariants.{Done, Negative}
use Rattle.command_base.specs.Output.{Output}
use Rattle.resource_tool.specs.MapOutput.{MapOutput}
use Rattle.resource_tool.specs.GoalTold.{line_about}
use Rattle.resource_tool.specs.MakeOutput.{MakeInputs, IsReadAccepted, certificate_line, made_output}

-- ---- what is left out

-- the line `omitted goal G WORDS`, a device for which that goal ends at no value, and that end
unfoldable pub omitted_text : List LayerOf → List GoalSeen → Omitted → List ℕ
omitted_text stack asked o = codes "omitted " ++ line_about stack asked (Some o.goal) ++ device_with_end (device_numbers o.device) o.ending

abbrev pub lines_of : List LayerOf → List GoalSeen → List Omitted → List ℕ
lines_of stack asked omitted = flat_map (omitted_text stack asked) omitted

-- ---- the output

-- Of a certificate without goals nothing is printed.
abbrev pub kept_output : List GoalOf → Output
kept_output [] = record { status = Negative; text = [] }
kept_output (tree ∷ trees) = record { status = Done; text = certificate_line (tree ∷ trees) }

-- a certificate of the goals that are kept, and beside it the lines of the others
abbrev pub omit_output : List LayerOf → List GoalSeen → Omitting → MapOutput
omit_output stack asked (Cert certificate omitted) = record { output = kept_output (goals_of certificate); lines = lines_of stack asked omitted.items }
omit_output stack asked NodeLimit = record { output = made_output made.NodeLimit; lines = [] }

-- the goals that a certificate is of
abbrev pub kept_goals : List GoalSeen → Omitting → List GoalSeen
kept_goals asked (Cert certificate omitted) = without (places_of omitted.items) asked
kept_goals asked NodeLimit = asked

-- An answer is printed that the maker may give for the layers, the box, the goals and the limit of nodes, and these lines are
-- said beside it. Where that is done, with a limit and goals that a certificate can have, what is printed is read as a
-- certificate that is accepted for the goals that are kept.
pub record IsOmitOutput (asked : List GoalSeen) (most : ℕ) (inputs : MakeInputs) (output : Output) (lines : List ℕ) : Type 0 where
  pub omitting : Omitting
  pub right : IsOmitting inputs.stack inputs.sets asked most omitting
  pub printed : record { output = output; lines = lines } ≡ omit_output inputs.stack asked omitting
  pub reads_back : output.status ≡ Done → most ≤ most_nodes → All GoalFits (kept_goals asked omitting) → IsReadAccepted (kept_goals asked omitting) inputs output.text

-- ---- which comes first

-- One writer is as it was, or the other got all lines.
abbrev pub ToldFirst : {W V : Type 0} → (V → Option (List ℕ)) → W → W → V → V → List ℕ → Type 0
ToldFirst says old new before after lines = (new ≡ old) ⊎ Appends (says before) (says after) lines

-- The same of the lines of an answer that the input allows. So no text is begun before all is told that is left out, also
-- where a writer fails.
abbrev pub LinesFirst : {W V X : Type 0} → (X → Output → List ℕ → Type 0) → (V → Option (List ℕ)) → W → W → V → V → Result X ToolFault → Type 0
LinesFirst {W} {V} {X} Allows says old new before after meant =
    (new ≡ old) ⊎ ((input : X) × (output : Output) × (lines : List ℕ) × (meant ≡ Ok input) × Allows input output lines × Appends (says before) (says after) lines)
