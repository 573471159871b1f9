-- What the command `check` prints.
use Rattle.std.specs.Prelude.{◌≡◌, ℕ, ◌++◌, Bool, List, [], length, Option, Some, None, Result, Ok, if◌then◌else◌}
use Rattle.std.specs.List.{flat_map}
use Rattle.contract_words.specs.Faults.{◌>>=◌}
use Rattle.command_base.specs.answer_text.config_record.locales.declared.locale_rule.LocaleRule.{LocaleRule}
use Rattle.command_base.specs.answer_text.config_record.locales.declared.locale_rule.LocaleRule.TheVariants.{LanguageAndRegion}
use Rattle.resource_text.specs.cert_maker.box_answers.NumberSet.{SetOf}
use Rattle.resource_text.specs.cert_maker.config_box.BoxJson.{box_in_by}
use Rattle.command_base.specs.overlay_map.Layer.{LayerOf}
use Rattle.resource_text.specs.cert_maker.cert_tree.Certificate.{GoalOf}
use Rattle.resource_text.specs.cert_maker.res_value.Goal.{GoalSeen}
use Rattle.resource_text.specs.cert_maker.cert_tree.CertJson.{cert_in_by}
use Rattle.resource_text.specs.cert_maker.cert_checker.declared.verdict.Verdict.{Verdict}
use Rattle.resource_text.specs.cert_maker.cert_checker.declared.verdict.Verdict.TheVariants.{Accepted, Rejected}
use Rattle.resource_text.specs.cert_maker.cert_checker.Verdict.{IsVerdict}
use Rattle.resource_text.specs.cert_maker.cert_checker.Headline.{Headline}
use Rattle.command_base.specs.declared.fault.ToolFault.{ToolFault}
use Rattle.command_base.specs.ToolFault.{fault_of_box, fault_of_certificate}
use Rattle.command_base.specs.answer_text.QueryText.{set_aside_line}
use Rattle.resource_text.specs.notation.declared.form.Form.TheVariants.{Raw, Android}
use Rattle.resource_text.specs.declared.line_form.LineForm.{LineForm}
use Rattle.resource_text.specs.declared.line_form.LineForm.TheVariants.{Text, Json}
use Rattle.resource_text.specs.declared.rejection.Rejection.{Rejection}
use Rattle.resource_text.specs.VerdictForms.{rejections_in, set_aside_in, verdict_in}
use Rattle.resource_text.specs.VerdictText.{verdict_text}
use Rattle.resource_text.specs.Naming.{NamingOf}
use Rattle.command_base.specs.declared.status.Status.{Status}
use Rattle.command_base.specs.declared.status.Status.TheVariants.{Done, Negative}
use Rattle.command_base.specs.Output.{Output}
use Rattle.command_base.specs.SetAside.{rows_set_aside}
use Rattle.command_base.specs.StackBytes.{LayerBytes, stack_in}
use Rattle.command_base.specs.MapErr.{map_err}
use Rattle.resource_tool.specs.EachGoal.{AreAllRejections, goes_on}
use Rattle.resource_tool.specs.GoalTold.{goal_told}

-- ---- the inputs

-- layers, the sets of a box, a certificate's goals with their trees, and the rule by which locales are compared
pub record CheckInputs : Type 0 where
  pub stack : List LayerOf
  pub sets : List SetOf
  pub trees : List GoalOf
  pub rule : LocaleRule

-- What these layers, a box's text and a certificate's text mean, whose locales are read by this rule, or the first fault. The
-- layers are read before the box, and that before the certificate.
unfoldable pub check_inputs_by : LocaleRule → List LayerBytes → List ℕ → List ℕ → Result CheckInputs ToolFault
check_inputs_by rule layers box_json cert_json = do
  stack ← stack_in layers
  sets ← map_err fault_of_box (box_in_by rule box_json)
  trees ← map_err fault_of_certificate (cert_in_by rule cert_json)
  Ok (record { stack = stack; sets = sets; trees = trees; rule = rule })

-- by language and region
abbrev pub check_inputs : List LayerBytes → List ℕ → List ℕ → Result CheckInputs ToolFault
check_inputs = check_inputs_by LanguageAndRegion

-- ---- the output

-- it is done where the certificate is accepted
abbrev pub status_of_verdict : Verdict → Status
status_of_verdict Accepted = Done
status_of_verdict (Rejected goal node rule shown) = Negative

-- the verdict, and a line with the number of rows of all layers that are set aside
unfoldable pub check_text : CheckInputs → Verdict → List ℕ
check_text inputs verdict = verdict_text verdict inputs.trees ++ set_aside_line (rows_set_aside inputs.rule inputs.stack)

-- A verdict is printed that is right: accepted where no rule fails at any node; else the first fault, and devices that show
-- it. What it says of all devices of the box holds.
pub record IsCheckOutput (asked : List GoalSeen) (inputs : CheckInputs) (output : Output) : Type 0 where
  pub verdict : Verdict
  pub right : IsVerdict inputs.stack inputs.sets asked inputs.trees verdict
  pub headline : Headline inputs.stack inputs.sets asked inputs.trees verdict
  pub status : output.status ≡ status_of_verdict verdict
  pub text : output.text ≡ check_text inputs verdict

-- ---- the same as it is asked, and what is said beside it

-- How a verdict is told: with names beside it, of all goals, and in which form; the tables of the layers lie at these paths.
pub record TellingOf : Type 0 where
  pub names : Bool
  pub all : Bool
  pub form : LineForm
  pub paths : List (List ℕ)

-- the names of the layers, where the form has them
abbrev pub naming_in : LineForm → NamingOf → Option NamingOf
naming_in (Text Raw) naming = None
naming_in (Text Android) naming = Some naming
naming_in Json naming = Some naming

abbrev pub naming_of : TellingOf → List LayerOf → Option NamingOf
naming_of telling stack = naming_in telling.form (record { stack = stack; paths = telling.paths })

-- the verdict as it is told, and how many rows are set aside
unfoldable pub told_text : TellingOf → List GoalSeen → CheckInputs → Verdict → List ℕ
told_text telling asked inputs verdict =
    verdict_in (naming_of telling inputs.stack) telling.form asked inputs.trees verdict
    ++ set_aside_in telling.form (rows_set_aside inputs.rule inputs.stack)

-- the goal at which a certificate is rejected
abbrev pub goal_of_verdict : Verdict → Option ℕ
goal_of_verdict Accepted = None
goal_of_verdict (Rejected goal node rule shown) = Some goal

-- what is said of the goal of a verdict
abbrev pub goal_told_of : List LayerOf → List GoalSeen → Bool → Verdict → List ℕ
goal_told_of stack asked names verdict = goal_told stack asked names (goal_of_verdict verdict)

-- All rejections are printed, with how many of how many goals these are, and these lines are said of their goals. The first of
-- them is the verdict.
pub record TellsAll (asked : List GoalSeen) (telling : TellingOf) (inputs : CheckInputs) (verdict : Verdict) (text lines : List ℕ) : Type 0 where
  pub rejections : List Rejection
  pub are : AreAllRejections inputs.stack inputs.sets inputs.trees verdict rejections
  pub printed : text ≡ rejections_in (naming_of telling inputs.stack) telling.form asked rejections (length inputs.trees)
      ++ set_aside_in telling.form (rows_set_aside inputs.rule inputs.stack)
  pub said : lines ≡ flat_map (λ rejection. goal_told_of inputs.stack asked telling.names rejection.verdict) rejections

-- the verdict alone, or, where it goes on, all rejections
abbrev pub Tells : List GoalSeen → TellingOf → CheckInputs → Verdict → Option ℕ → List ℕ → List ℕ → Type 0
Tells asked telling inputs verdict None text lines =
    (text ≡ told_text telling asked inputs verdict) × (lines ≡ goal_told_of inputs.stack asked telling.names verdict)
Tells asked telling inputs verdict (Some goal) text lines = TellsAll asked telling inputs verdict text lines

-- nothing where names are not asked for (cited by contracts of this crate alone)
abbrev pub said_lines : Bool → List ℕ → List ℕ
said_lines names lines = if names then lines else []

-- A verdict that is right is told as it is asked; where all rejections are asked for, those.
pub record IsCheckAnswer (asked : List GoalSeen) (telling : TellingOf) (inputs : CheckInputs) (output : Output) (lines : List ℕ) : Type 0 where
  pub verdict : Verdict
  pub right : IsVerdict inputs.stack inputs.sets asked inputs.trees verdict
  pub headline : Headline inputs.stack inputs.sets asked inputs.trees verdict
  pub status : output.status ≡ status_of_verdict verdict
  pub told : Tells asked telling inputs verdict (goes_on telling.all verdict) output.text lines
