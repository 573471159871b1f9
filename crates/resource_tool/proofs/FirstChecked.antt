-- What a check says of the first goals of a list, one more than the certificate has trees, it says of the whole list: where
-- there are more, the lists differ in the same place.
use Rattle.std.proofs.Common.{◌≡◌, ℕ, ◌+◌, ◌<◌, ◌≤◌, inl, inr, arith, List, ◌++◌, length, take, Option, Some, None, Result, Ok, refl, ap, subst, sym, ◌∙◌, length-take}
use Rattle.std.proofs.lemmas.Bool.{cases_lt}
use Rattle.std.proofs.lemmas.List.{take_all, length-map}
use Rattle.std.proofs.lemmas.Option.{slice_get_past}
use Rattle.command_base.specs.declared.fault.ToolFault.{ToolFault}
use Rattle.command_base.specs.declared.status.Status.{Status}
use Rattle.command_base.specs.declared.stop.Stop.{Stop}
use Rattle.command_base.specs.CarriesOut.{CarriesOut}
use Rattle.command_base.specs.Stop.{StopOf}
use Rattle.command_base.specs.Output.{Output}
use Rattle.resource_text.specs.cert_maker.cert_tree.Certificate.{GoalOf}
use Rattle.resource_text.specs.cert_maker.res_value.Goal.{GoalSeen}
use Rattle.resource_text.specs.Naming.{NamingOf}
use Rattle.resource_text.specs.RejectionNotation.{rejected_notation, rejection_notation, shown_of}
use Rattle.resource_text.specs.VerdictForms.{claim_at, set_aside_in, verdict_in}
use Rattle.resource_text.specs.VerdictJson.{rejected_json, rejection_json}
use Rattle.resource_text.specs.declared.line_form.LineForm.{LineForm}
use Rattle.resource_text.specs.declared.line_form.LineForm.TheVariants.{Text, Json}
use Rattle.command_base.specs.SetAside.{rows_set_aside}
use Rattle.resource_text.specs.cert_maker.cert_checker.declared.rule.Rule.{Rule}
use Rattle.resource_text.specs.cert_maker.cert_checker.declared.rule.Rule.TheVariants.{GoalList}
use Rattle.resource_text.specs.cert_maker.cert_checker.declared.verdict.Shown.{Shown}
use Rattle.resource_text.specs.cert_maker.cert_checker.declared.verdict.Verdict.{Verdict}
use Rattle.resource_text.specs.cert_maker.cert_checker.declared.verdict.Verdict.TheVariants.{Accepted, Rejected}
use Rattle.resource_text.specs.cert_maker.cert_checker.FirstFault.{goals_in, DifferFirstAt}
use Rattle.resource_text.specs.cert_maker.cert_checker.Verdict.{IsVerdict}
use Rattle.resource_tool.specs.Answered.{PrintsBothOneOf}
use Rattle.resource_tool.specs.Check.{OpenCheckOf, first_opened, with_first}
use Rattle.resource_tool.specs.CheckOutput.{CheckInputs, IsCheckAnswer, Tells, TellingOf, naming_of, status_of_verdict, told_text}
use Rattle.resource_tool.specs.EachGoal.{goes_on}
use Rattle.resource_tool.proofs.FirstOf.{carried-on-all, first-at, told-of-first}
use Rattle.resource_tool.proofs.ToldAnswers.{told-otherwise}

-- ---- the lists

goals-count : (trees : List GoalOf) → length (goals_in trees) ≡ length trees
goals-count trees = length-map trees (λ (t : GoalOf). t.goal)

-- the lists are not the same
not-same : (trees : List GoalOf) (asked : List GoalSeen) → length trees + 1 ≤ length asked → goals_in trees ≡ take (length trees + 1) asked → ⊥
not-same trees asked longer same =
    let found = goals-count trees in
    let count = ap length same ∙ length-take (length trees + 1) asked in omega (arith, found, count, longer)

-- they differ where the trees end at the latest
differs-within : (trees : List GoalOf) (asked : List GoalSeen) (g : ℕ) → DifferFirstAt (goals_in trees) (take (length trees + 1) asked) g → g < length trees + 1
differs-within trees asked g first =
    elim (cases_lt g (length trees + 1)) [
      | inl within ↦ within
      | inr past ↦ (
          let found = goals-count trees in
          let count = length-take (length trees + 1) asked in
          let none = slice_get_past (goals_in trees) g (omega (arith, found, past)) in
          let other = slice_get_past (take (length trees + 1) asked) g (omega (arith, count, past)) in absurd (first.differ (none ∙ sym other))
          )
    ]

differs-first : (trees : List GoalOf) (asked : List GoalSeen) (g : ℕ) → DifferFirstAt (goals_in trees) (take (length trees + 1) asked) g → DifferFirstAt (goals_in trees) asked g
differs-first trees asked g first =
    let within = differs-within trees asked g first in
    record {
      before = λ k lower. first.before k lower ∙ first-at (length trees + 1) asked k (omega (arith, lower, within));
      differ = λ same. first.differ (same ∙ sym (first-at (length trees + 1) asked g within));
    }

-- ---- the verdict

-- where a goal is among the first, a rejection at it reads the same
reads-of-first : (naming : Option NamingOf) (form : LineForm) (asked : List GoalSeen) (trees : List GoalOf) (n g k : ℕ) (rule : Rule) (shown : Shown) → g < n
    → verdict_in naming form (take n asked) trees (Rejected g k rule shown) ≡ verdict_in naming form asked trees (Rejected g k rule shown)
unfolding rejection_notation rejection_json
reads-of-first None form asked trees n g k rule shown within = refl
reads-of-first (Some naming) (Text form) asked trees n g k rule shown within =
    ap (λ (goal : Option GoalSeen). rejected_notation naming goal g k rule ++ shown_of naming (claim_at trees (Rejected g k rule shown)) goal shown) (first-at n asked g within)
reads-of-first (Some naming) Json asked trees n g k rule shown within =
    ap (λ (goal : Option GoalSeen). rejected_json naming goal (claim_at trees (Rejected g k rule shown)) g k rule shown) (first-at n asked g within)

text-of-first : (telling : TellingOf) (asked : List GoalSeen) (inputs : CheckInputs) (n g k : ℕ) (rule : Rule) (shown : Shown) → g < n
    → told_text telling (take n asked) inputs (Rejected g k rule shown) ≡ told_text telling asked inputs (Rejected g k rule shown)
unfolding told_text
text-of-first telling asked inputs n g k rule shown within =
    ap (λ (text : List ℕ). text ++ set_aside_in telling.form (rows_set_aside inputs.rule inputs.stack)) (reads-of-first (naming_of telling inputs.stack) telling.form asked inputs.trees n g k rule shown within)

-- where more goals are asked
checked-longer : (asked : List GoalSeen) (telling : TellingOf) (inputs : CheckInputs) (output : Output) (lines : List ℕ) → length inputs.trees + 1 ≤ length asked → (verdict : Verdict)
    → IsVerdict inputs.stack inputs.sets (take (length inputs.trees + 1) asked) inputs.trees verdict → output.status ≡ status_of_verdict verdict
    → Tells (take (length inputs.trees + 1) asked) telling inputs verdict (goes_on telling.all verdict) output.text lines → IsCheckAnswer asked telling inputs output lines
checked-longer asked telling inputs output lines longer Accepted right ended told = absurd (not-same inputs.trees asked longer right.goals)
checked-longer asked telling inputs output lines longer (Rejected g k GoalList shown) (fault, shows) ended told =
    let differ = differs-first inputs.trees asked g fault.0 in
    record {
      verdict = Rejected g k GoalList shown;
      right = ((differ, fault.1), shows);
      headline = (differ, fault.1);
      status = ended;
      told = (told.0 ∙ text-of-first telling asked inputs (length inputs.trees + 1) g k GoalList shown (differs-within inputs.trees asked g fault.0), told.1 ∙ told-of-first inputs.stack asked telling.names (length inputs.trees + 1) g (differs-within inputs.trees asked g fault.0));
    }
checked-longer asked telling inputs output lines longer (Rejected g k rule shown) (fault, shows) ended told = absurd (not-same inputs.trees asked longer fault.goals)

-- The law: a verdict for the first goals is one for all.
pub first-checked : (asked : List GoalSeen) (telling : TellingOf) (inputs : CheckInputs) (output : Output) (lines : List ℕ)
    → IsCheckAnswer (take (length inputs.trees + 1) asked) telling inputs output lines → IsCheckAnswer asked telling inputs output lines
first-checked asked telling inputs output lines answer =
    elim (cases_lt (length inputs.trees) (length asked)) [
      | inl longer ↦ checked-longer asked telling inputs output lines (omega (arith, longer)) answer.verdict answer.right answer.status answer.told
      | inr few ↦ subst (λ (goals : List GoalSeen). IsCheckAnswer goals telling inputs output lines) (take_all (length inputs.trees + 1) asked (omega (arith, few))) answer
    ]

-- So the command that is carried out on the first goals is carried out on all.
pub checked-of-all : {W V : Type 0} (telling : TellingOf) (contents : W → Option (List ℕ)) (says : V → Option (List ℕ)) (old new : W) (before after : V) (check : OpenCheckOf) (done : Result Status ToolFault)
    → PrintsBothOneOf (IsCheckAnswer (with_first check).goals telling) contents says old new before after done (Ok check.opened)
    → PrintsBothOneOf (IsCheckAnswer check.goals telling) contents says old new before after done (Ok check.opened)
checked-of-all telling contents says old new before after check done told =
    told-otherwise (IsCheckAnswer (with_first check).goals telling) (IsCheckAnswer check.goals telling) contents says old new before after done (Ok check.opened)
    (λ inputs output lines is answer.
    let same : check.opened ≡ inputs = cc in
    first-checked check.goals telling inputs output lines
    (subst (λ (i : CheckInputs). IsCheckAnswer (take (length i.trees + 1) check.goals) telling inputs output lines) same answer))
    told

pub carried-by-first : {W V : Type 0} (telling : TellingOf) (contents : W → Option (List ℕ)) (says : V → Option (List ℕ)) (old new : W) (before after : V) (meant : Result OpenCheckOf StopOf) (result : Result Status Stop)
    → CarriesOut (λ check done. PrintsBothOneOf (IsCheckAnswer check.goals telling) contents says old new before after done (Ok check.opened)) (first_opened meant) result
    → CarriesOut (λ check done. PrintsBothOneOf (IsCheckAnswer check.goals telling) contents says old new before after done (Ok check.opened)) meant result
carried-by-first telling contents says old new before after meant result carried =
    carried-on-all with_first (λ (check : OpenCheckOf) (done : Result Status ToolFault). PrintsBothOneOf (IsCheckAnswer check.goals telling) contents says old new before after done (Ok check.opened)) meant result
    (checked-of-all telling contents says old new before after) carried
