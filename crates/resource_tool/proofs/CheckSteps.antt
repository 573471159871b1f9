-- The verdict that was printed, from the bytes of the inputs.
use Rattle.std.proofs.Common.{◌≡◌, ℕ, Bool, true, false, List, [], ◌∷◌, Option, Some, None, Ok, refl, subst, sym, ◌∙◌}
use Rattle.std.specs.List.{flat_map}
use Rattle.std.specs.Io.KnownBytes.{Appends}
use Rattle.command_base.specs.overlay_map.Layer.{LayerOf}
use Rattle.resource_text.specs.cert_maker.res_value.Goal.{GoalSeen}
use Rattle.command_base.specs.declared.status.Status.{Status}
use Rattle.command_base.specs.Output.{PrintsOneOf}
use Rattle.command_base.specs.StackBytes.{LayerBytes}
use Rattle.resource_text.specs.cert_maker.cert_checker.declared.verdict.Verdict.{Verdict}
use Rattle.resource_text.specs.declared.line_form.LineForm.{LineForm}
use Rattle.resource_text.specs.declared.rejection.Rejection.{Rejection}
use Rattle.resource_text.specs.cert_maker.cert_checker.Verdict.{IsVerdict}
use Rattle.resource_text.specs.cert_maker.cert_checker.Headline.{Headline}
use Rattle.resource_tool.specs.Answered.{PrintsBothOneOf}
use Rattle.resource_tool.specs.GoalTold.{goal_told}
use Rattle.resource_tool.specs.CheckOutput.{CheckInputs, check_inputs, IsCheckOutput, IsCheckAnswer, Tells, TellingOf, goal_told_of, said_lines, status_of_verdict}
use Rattle.resource_tool.specs.EachGoal.{goes_on}
use Rattle.resource_tool.specs.CheckHeadline.{HeadlineHolds}

pub headline-holds : {W : Type 0} (contents : W → Option (List ℕ)) (old new : W) (layers : List LayerBytes) (box_json cert_json : List ℕ) (asked : List GoalSeen) (status : Status) (inputs : CheckInputs)
    → check_inputs layers box_json cert_json ≡ Ok inputs → PrintsOneOf (IsCheckOutput asked) contents old new (Ok status) (Ok inputs)
    → HeadlineHolds layers box_json cert_json asked (contents old) (contents new) status
headline-holds contents old new layers box_json cert_json asked status inputs read (input, text, is, output, put) =
    record {
      inputs = input;
      verdict = output.verdict;
      means = read ∙ is;
      ends = output.status;
      printed = subst (λ (t : List ℕ). Appends (contents old) (contents new) t) output.text put;
      holds = output.headline;
    }

-- where names are not asked for, nothing is to be said

said-nothing : (stack : List LayerOf) (asked : List GoalSeen) (rejections : List Rejection) → flat_map (λ rejection. goal_told_of stack asked false rejection.verdict) rejections ≡ []
unfolding goal_told
said-nothing stack asked [] = refl
said-nothing stack asked (rejection ∷ rejections) = said-nothing stack asked rejections

all-said : (asked : List GoalSeen) (names all : Bool) (form : LineForm) (paths : List (List ℕ)) (inputs : CheckInputs) (verdict : Verdict) (goal : Option ℕ) (text lines : List ℕ)
    → Tells asked (record { names = names; all = all; form = form; paths = paths }) inputs verdict goal text lines → said_lines names lines ≡ lines
unfolding goal_told
all-said asked true all form paths inputs verdict goal text lines told = refl
all-said asked false all form paths inputs verdict None text lines told = sym told.1
all-said asked false all form paths inputs verdict (Some goal) text lines told = sym (told.said ∙ said-nothing inputs.stack asked told.rejections)

-- what is told of a verdict
pub told-beside : {W V : Type 0} (contents : W → Option (List ℕ)) (says : V → Option (List ℕ)) (old new : W) (before after : V) (asked : List GoalSeen) (telling : TellingOf) (inputs : CheckInputs)
    (verdict : Verdict) (status : Status) (text lines : List ℕ)
    → IsVerdict inputs.stack inputs.sets asked inputs.trees verdict → Headline inputs.stack inputs.sets asked inputs.trees verdict → status ≡ status_of_verdict verdict
    → Tells asked telling inputs verdict (goes_on telling.all verdict) text lines → Appends (contents old) (contents new) text
    → Appends (says before) (says after) (said_lines telling.names lines)
    → PrintsBothOneOf (IsCheckAnswer asked telling) contents says old new before after (Ok status) (Ok inputs)
told-beside contents says old new before after asked telling inputs verdict status text lines right headline ended told put said = (
  inputs,
  text,
  lines,
  refl,
  record { verdict = verdict; right = right; headline = headline; status = ended; told = told },
  put,
  subst (λ (t : List ℕ). Appends (says before) (says after) t) (all-said asked telling.names telling.all telling.form telling.paths inputs verdict (goes_on telling.all verdict) text lines told) said,
)
