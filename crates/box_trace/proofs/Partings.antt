-- Where the members of a box part.
use Rattle.std.proofs.Common.{◌≡◌, ◌≢◌, ℕ, Bool, true, false, List, ◌∷◌, Option, sym, ◌∙◌, ap}
use Rattle.std.specs.Option.{option_map}
use Rattle.bags_themes.specs.config_record.declared.coord.Coord.{Coord}
use Rattle.bags_themes.specs.config_record.DeviceSeen.{device_numbers}
use Rattle.config_box.specs.box_answers.NumberSet.{SetOf}
use Rattle.config_box.specs.box_answers.Members.{IsMember}
use Rattle.config_box.specs.box_answers.Sameness.{Separates}
use Rattle.bags_themes.specs.overlay_map.Candidates.{CandOf, cand_of}
use Rattle.bags_themes.specs.reference_resolver.declared.step.Step.{Step}
use Rattle.bags_themes.specs.reference_resolver.Selection.{step_of, best_after}
use Rattle.bags_themes.specs.reference_resolver.Trace.{Trace}
use Rattle.box_trace.specs.declared.parting.Parting.{Parting}
use Rattle.box_trace.specs.Division.{DividesAt, Divides}
use Rattle.box_trace.specs.Walk.{rest_at, HaveCome}
use Rattle.box_trace.specs.Parting.{says_yes, answer_of, TraceTells, IsParting}
use Rattle.box_trace.specs.CommonStep.{PartsAt}
use Rattle.box_trace.proofs.Rests.{rest_same}

-- another question that members answer in the same way
pub separates_alike : (sets : List SetOf) (answer other : List ℕ → Bool) (x y : List ℕ) (c : Coord) → ((d : List ℕ) → IsMember sets d → other d ≡ answer d) → Separates sets answer x y c → Separates sets other x y c
separates_alike sets answer other x y c alike s = record {
  parts = record {
    yes = record { member = s.parts.yes.member; answers = alike x s.parts.yes.member ∙ s.parts.yes.answers };
    no = record { member = s.parts.no.member; answers = alike y s.parts.no.member ∙ s.parts.no.answers };
    others = s.parts.others;
  };
  near = s.near;
}

-- where their traces tell what they answer, these differ
pub traces_differ : (trace : List ℕ → Trace) (answer : List ℕ → Bool) (sets : List SetOf) (x y : List ℕ) (c : Coord) → Separates sets answer x y c → TraceTells (IsMember sets) trace answer → trace x ≢ trace y
traces_differ trace answer sets x y c s tells e =
    let same = tells x y s.parts.yes.member s.parts.no.member e in
    let no : true ≡ false = sym s.parts.yes.answers ∙ same ∙ s.parts.no.answers in
    cc

-- ---- along candidates

divides_first : (members : List ℕ → Type 0) (trace : List ℕ → Trace) (after : Option CandOf → List ℕ → Trace) (best : Option CandOf) (candidate : CandOf) (ahead : List CandOf) (x y : List ℕ)
    → HaveCome members trace (rest_at after best (candidate ∷ ahead)) → DividesAt members (step_of best candidate) x y → Divides members (λ d. (trace d).steps) x y
divides_first members trace after best candidate ahead x y come divides = record {
  before = come.before;
  step = step_of best candidate;
  after = λ d. (rest_at after (best_after (step_of best candidate d) best candidate) ahead d).steps;
  same = λ d m. ap (λ (t : Trace). t.steps) (come.same d m);
  divides = divides;
}

next_same : (x y : Step) (xs ys : List Step) → x ∷ xs ≡ y ∷ ys → x ≡ y
next_same x y xs ys e = cc

-- the rest begins with what the candidate does
pub step_same : (after : Option CandOf → List ℕ → Trace) (best : Option CandOf) (candidate : CandOf) (ahead : List CandOf) (d e : List ℕ)
    → rest_at after best (candidate ∷ ahead) d ≡ rest_at after best (candidate ∷ ahead) e → step_of best candidate d ≡ step_of best candidate e
step_same after best candidate ahead d e same = next_same (step_of best candidate d) (step_of best candidate e) _ _ (ap (λ (t : Trace). t.steps) same)

tells_first : (members : List ℕ → Type 0) (trace : List ℕ → Trace) (after : Option CandOf → List ℕ → Trace) (best : Option CandOf) (candidate : CandOf) (ahead : List CandOf) (parting : Parting)
    → HaveCome members trace (rest_at after best (candidate ∷ ahead)) → option_map cand_of parting.best ≡ best → cand_of parting.candidate ≡ candidate → TraceTells members trace (answer_of parting)
unfolding answer_of
tells_first members trace after best candidate ahead parting come is_best is d e md me same =
    let step = step_same after best candidate ahead d e (rest_same members trace (rest_at after best (candidate ∷ ahead)) d e come md me same) in
    let here : (z : List ℕ) → step_of (option_map cand_of parting.best) (cand_of parting.candidate) z ≡ step_of best candidate z =
    λ z. ap (λ (o : Option CandOf). step_of o (cand_of parting.candidate) z) is_best ∙ ap (λ (k : CandOf). step_of best k z) is in
    ap (says_yes parting.asked) (here d ∙ step ∙ sym (here e))

-- all have come to the candidate at which they part
pub parts_here : (sets : List SetOf) (trace : List ℕ → Trace) (after : Option CandOf → List ℕ → Trace) (best : Option CandOf) (candidate : CandOf) (ahead : List CandOf) (parting : Parting)
    → HaveCome (IsMember sets) trace (rest_at after best (candidate ∷ ahead)) → PartsAt sets best candidate parting → IsParting parting sets trace
parts_here sets trace after best candidate ahead parting come parts = record {
  told = record {
    separates = parts.separates;
    trace_tells = tells_first (IsMember sets) trace after best candidate ahead parting come parts.best_before parts.asked_of;
  };
  divides = divides_first (IsMember sets) trace after best candidate ahead (device_numbers parting.pair.yes) (device_numbers parting.pair.no) come parts.divides;
}
