-- Each goal of a certificate by itself.
use Rattle.std.specs.Prelude.{◌≡◌, ℕ, ◌+◌, Bool, List, [], ◌∷◌, ◌++◌, Option, Some, None, if◌then◌else◌}
use Rattle.command_base.specs.overlay_map.Layer.{LayerOf}
use Rattle.resource_text.specs.cert_maker.box_answers.NumberSet.{SetOf}
use Rattle.command_base.specs.answer_text.reference_resolver.declared.end.End.{End}
use Rattle.resource_text.specs.cert_maker.cert_tree.Certificate.{GoalOf}
use Rattle.resource_text.specs.cert_maker.cert_checker.declared.rule.Rule.TheVariants.{GoalList}
use Rattle.resource_text.specs.cert_maker.cert_checker.declared.verdict.Verdict.{Verdict}
use Rattle.resource_text.specs.cert_maker.cert_checker.declared.verdict.Verdict.TheVariants.{Accepted, Rejected}
use Rattle.resource_text.specs.cert_maker.cert_checker.Verdict.{IsVerdict}
use Rattle.resource_text.specs.declared.rejection.Rejection.{Rejection}
use Rattle.resource_text.specs.VerdictForms.{claim_at, rejection_of}

-- the verdict on a goal: that on the certificate which has its tree alone, for it alone
abbrev pub IsGoalVerdict : List LayerOf → List SetOf → GoalOf → Verdict → Type 0
IsGoalVerdict stack sets tree verdict = IsVerdict stack sets (tree.goal ∷ []) (tree ∷ []) verdict

-- the rejection of the goal that stands at this place of a list; none where it is accepted
abbrev pub at_place : ℕ → Verdict → Option End → List Rejection
at_place place Accepted claimed = []
at_place place (Rejected goal node rule shown) claimed = record { verdict = Rejected place node rule shown; claimed = claimed } ∷ []

-- of this tree
abbrev pub rejection_at : ℕ → GoalOf → Verdict → List Rejection
rejection_at place tree verdict = at_place place verdict (claim_at (tree ∷ []) verdict)

-- these are the rejections of goals, of which the first stands at this place of a list, in their order
abbrev pub AreRejections : List LayerOf → List SetOf → ℕ → List GoalOf → List Rejection → Type 0
AreRejections stack sets place [] rejections = rejections ≡ []
AreRejections stack sets place (tree ∷ trees) rejections =
    (verdict : Verdict) × (others : List Rejection) × IsGoalVerdict stack sets tree verdict × AreRejections stack sets (place + 1) trees others
    × (rejections ≡ rejection_at place tree verdict ++ others)

-- They stand behind these. (Cited by this crate alone.)
abbrev pub IsWith : List LayerOf → List SetOf → List Rejection → ℕ → List GoalOf → List Rejection → Type 0
IsWith stack sets before place trees all =
    (found : List Rejection) × AreRejections stack sets place trees found × (all ≡ before ++ found)

-- these are those of all goals, and the first is this verdict on the whole certificate
pub record AreAllRejections (stack : List LayerOf) (sets : List SetOf) (trees : List GoalOf) (verdict : Verdict) (rejections : List Rejection) : Type 0 where
  pub each : AreRejections stack sets 0 trees rejections
  pub others : List Rejection
  pub first : rejections ≡ rejection_of trees verdict ∷ others

-- The goal at which a certificate is rejected, where all rejections are asked for. A certificate for other goals is rejected at
-- none.
abbrev pub goes_on : Bool → Verdict → Option ℕ
goes_on all Accepted = None
goes_on all (Rejected goal node GoalList shown) = None
goes_on all (Rejected goal node rule shown) = if all then Some goal else None
