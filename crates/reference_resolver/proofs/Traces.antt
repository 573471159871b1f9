-- What is told of candidates is what they do.
use Rattle.std.proofs.Common.{◌≡◌, Bool, true, false, if◌then◌else◌, ℕ, List, [], ◌∷◌, ◌++◌, map, Option, Some, None, is_none, refl, ◌∙◌, ap}
use Rattle.std.specs.Prelude.{not}
use Rattle.std.specs.List.{flat_map}
use Rattle.std.proofs.lemmas.List.{map-append}
use Rattle.config_precedence.specs.config_match.declared.reason.Mismatch.{Mismatch}
use Rattle.config_precedence.specs.config_match.declared.reason.Mismatch.TheVariants as mismatches
use Rattle.config_precedence.specs.config_match.Matching.{is_match, mismatch_of}
use Rattle.config_precedence.proofs.config_match.NoMismatch.{no_mismatch}
use Rattle.config_precedence.specs.Precedence.{is_better, deciding_of, keeping_out_of}
use Rattle.overlay_map.specs.Layer.{LayerOf}
use Rattle.overlay_map.specs.Candidates.{CandOf, candidates_of}
use Rattle.reference_resolver.specs.declared.step.Step.{Step}
use Rattle.reference_resolver.specs.declared.step.Step.TheVariants as steps
use Rattle.reference_resolver.specs.declared.decision.Decision.TheVariants as decisions
use Rattle.reference_resolver.specs.Selection.{beats, beats_best, step_of, best_after, scan_candidates}
use Rattle.reference_resolver.specs.Decision.{decision_against, decision_of_match, decision_by, decision_of, step_by}
use Rattle.reference_resolver.specs.Trace.{TracedCandidateOf, traced, scan_look_up, look_ups_of, IsTraced}

-- ---- of one candidate

by_beating : (beating better : Bool) (rule other : Option ℕ)
    → step_by (if not beating then decisions.KeptOut other else if better then decisions.TookOver rule else decisions.TookOverEqual) ≡ (if beating then steps.TookOver else steps.KeptOut)
by_beating false better rule other = refl
by_beating true true rule other = refl
by_beating true false rule other = refl

step_of_match : (best : Option CandOf) (candidate : CandOf) (d : List ℕ)
    → step_by (decision_of_match best candidate d) ≡ (if beats_best best candidate d then steps.TookOver else steps.KeptOut)
unfolding decision_against
step_of_match None candidate d = refl
step_of_match (Some best) candidate d =
    by_beating (beats candidate best d) (is_better candidate.row.config best.row.config d)
    (deciding_of candidate.row.config best.row.config d) (keeping_out_of candidate.row.config best.row.config d)

by_mismatch : (mismatch : Option Mismatch) (matches : Bool) (best : Option CandOf) (candidate : CandOf) (d : List ℕ) → is_none mismatch ≡ matches
    → step_by (decision_by mismatch best candidate d) ≡ (if matches then (if beats_best best candidate d then steps.TookOver else steps.KeptOut) else steps.NoMatch)
by_mismatch (Some mismatches.SetAside) false best candidate d e = refl
by_mismatch (Some (mismatches.At coord)) false best candidate d e = refl
by_mismatch (Some mismatches.SetAside) true best candidate d e = absurd cc
by_mismatch (Some (mismatches.At coord)) true best candidate d e = absurd cc
by_mismatch None true best candidate d e = step_of_match best candidate d
by_mismatch None false best candidate d e = absurd cc

pub step_told : (best : Option CandOf) (candidate : CandOf) (d : List ℕ) → step_by (decision_of best candidate d) ≡ step_of best candidate d
step_told best candidate d =
    by_mismatch (mismatch_of candidate.row.config d) (is_match candidate.row.config d) best candidate d (no_mismatch candidate.row.config d)

-- ---- of all

abbrev step_of_traced : TracedCandidateOf → Step
step_of_traced told = step_by told.decision

steps_told : (best : Option CandOf) (candidates : List CandOf) (d : List ℕ) → map step_of_traced (scan_candidates traced best candidates d) ≡ scan_candidates step_of best candidates d
steps_told best [] d = refl
steps_told best (candidate ∷ candidates) d =
    ap (λ (step : Step). step ∷ map step_of_traced (scan_candidates traced (best_after (step_of best candidate d) best candidate) candidates d)) (step_told best candidate d)
    ∙ ap (λ (steps : List Step). step_of best candidate d ∷ steps) (steps_told (best_after (step_of best candidate d) best candidate) candidates d)

steps_along : (stack : List LayerOf) (d ids : List ℕ) → map step_of_traced (flat_map (scan_look_up traced stack d) ids) ≡ flat_map (scan_look_up step_of stack d) ids
steps_along stack d [] = refl
steps_along stack d (id ∷ ids) =
    map-append step_of_traced (scan_look_up traced stack d id) (flat_map (scan_look_up traced stack d) ids)
    ∙ ap (λ (steps : List Step). steps ++ map step_of_traced (flat_map (scan_look_up traced stack d) ids)) (steps_told None (candidates_of stack id) d)
    ∙ ap (λ (steps : List Step). scan_look_up step_of stack d id ++ steps) (steps_along stack d ids)

pub is_traced : (stack : List LayerOf) (most id : ℕ) (d : List ℕ) → IsTraced stack most id d
unfolding IsTraced
is_traced stack most id d = steps_along stack d (look_ups_of stack most id d)
