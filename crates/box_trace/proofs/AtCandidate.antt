-- What one candidate does at the members of a box.
use Rattle.std.proofs.Common.{◌≡◌, ℕ, Bool, true, false, IsTrue, List, Option, if◌then◌else◌, inl, inr, ◌∙◌, refl}
use Rattle.bags_themes.specs.config_record.declared.coord.Coord.{Coord}
use Rattle.bags_themes.specs.config_match.Matching.{is_match}
use Rattle.config_box.specs.box_answers.NumberSet.{SetOf}
use Rattle.config_box.specs.box_answers.Members.{IsMember}
use Rattle.config_box.specs.box_answers.Sameness.{Separates}
use Rattle.bags_themes.specs.overlay_map.Candidates.{CandOf}
use Rattle.bags_themes.specs.reference_resolver.declared.step.Step.TheVariants.{NoMatch, KeptOut, TookOver}
use Rattle.bags_themes.specs.reference_resolver.Selection.{beats_best, step_of}
use Rattle.box_trace.specs.Division.{has_matched, has_taken_over, DividesAt}
use Rattle.config_box.specs.box_answers.MemberAnswers.{AllAnswer}
use Rattle.box_trace.specs.Live.{does_match}

matched_by : (matches beaten : Bool) → has_matched (if matches then (if beaten then TookOver else KeptOut) else NoMatch) ≡ matches
matched_by true true = refl
matched_by true false = refl
matched_by false beaten = refl

taken_by : (matches beaten : Bool) → IsTrue matches → has_taken_over (if matches then (if beaten then TookOver else KeptOut) else NoMatch) ≡ beaten
taken_by true true is = refl
taken_by true false is = refl
taken_by false beaten is = absurd (cc)

pub matched : (best : Option CandOf) (candidate : CandOf) (d : List ℕ) → has_matched (step_of best candidate d) ≡ is_match candidate.row.config d
matched best candidate d = matched_by (is_match candidate.row.config d) (beats_best best candidate d)

pub taken : (best : Option CandOf) (candidate : CandOf) (d : List ℕ) → IsTrue (is_match candidate.row.config d) → has_taken_over (step_of best candidate d) ≡ beats_best best candidate d
taken best candidate d is = taken_by (is_match candidate.row.config d) (beats_best best candidate d) is

took_over : (matches beaten : Bool) → IsTrue matches → beaten ≡ true → (if matches then (if beaten then TookOver else KeptOut) else NoMatch) ≡ TookOver
took_over true true is e = refl
took_over true false is e = absurd (cc)
took_over false beaten is e = absurd (cc)

kept_out : (matches beaten : Bool) → IsTrue matches → beaten ≡ false → (if matches then (if beaten then TookOver else KeptOut) else NoMatch) ≡ KeptOut
kept_out true false is e = refl
kept_out true true is e = absurd (cc)
kept_out false beaten is e = absurd (cc)

no_match : (matches beaten : Bool) → matches ≡ false → (if matches then (if beaten then TookOver else KeptOut) else NoMatch) ≡ NoMatch
no_match false beaten e = refl
no_match true beaten e = absurd (cc)

-- one that matches no member does nothing
pub does_nothing : (members : List ℕ → Type 0) (best : Option CandOf) (candidate : CandOf) → AllAnswer members (does_match candidate) false → (d : List ℕ) → members d → step_of best candidate d ≡ NoMatch
does_nothing members best candidate none d m = no_match (is_match candidate.row.config d) (beats_best best candidate d) (none d m)

-- it matches some and not others
pub divides_matching : (sets : List SetOf) (best : Option CandOf) (candidate : CandOf) (x y : List ℕ) (c : Coord) → Separates sets (is_match candidate.row.config) x y c → DividesAt (IsMember sets) (step_of best candidate) x y
divides_matching sets best candidate x y c s =
    inl (matched best candidate x ∙ s.parts.yes.answers, no_match (is_match candidate.row.config y) (beats_best best candidate y) s.parts.no.answers)

-- it matches all, and takes over at some alone
pub divides_taking : (sets : List SetOf) (best : Option CandOf) (candidate : CandOf) (x y : List ℕ) (c : Coord) → ((d : List ℕ) → IsMember sets d → IsTrue (is_match candidate.row.config d))
    → Separates sets (beats_best best candidate) x y c → DividesAt (IsMember sets) (step_of best candidate) x y
divides_taking sets best candidate x y c all s =
    inr (
      λ d m. matched best candidate d ∙ all d m,
      took_over (is_match candidate.row.config x) (beats_best best candidate x) (all x s.parts.yes.member) s.parts.yes.answers,
      kept_out (is_match candidate.row.config y) (beats_best best candidate y) (all y s.parts.no.member) s.parts.no.answers,
    )
