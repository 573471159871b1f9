-- Selection by the places of candidates: which of them take over, one after the other, and what it means that the
-- others do not.
use Rattle.std.specs.Prelude.{ℕ, ◌≡◌, ◌≤◌, ◌<◌, ◌+◌, Bool, ◌&&◌, List, [], ◌∷◌, Option, Some, None, IsTrue, IsFalse, slice_get, length}
use Rattle.config_precedence.specs.config_match.Matching.{is_match}
use Rattle.overlay_map.specs.Candidates.{CandOf}
use Rattle.reference_resolver.specs.declared.step.Step.{Step}
use Rattle.reference_resolver.specs.declared.step.Step.TheVariants.{NoMatch, KeptOut, TookOver}
use Rattle.reference_resolver.specs.Selection.{beats, step_of, scan_candidates}

-- a candidate matches, and it beats the last that took over, if one did
abbrev pub takes_over : Option CandOf → CandOf → List ℕ → Bool
takes_over None candidate d = is_match candidate.row.config d
takes_over (Some last) candidate d = is_match candidate.row.config d && beats candidate last d

-- from one place up to another no candidate takes over from the last that did
abbrev pub ArePassedOver : List CandOf → List ℕ → Option CandOf → ℕ → ℕ → Type 0
ArePassedOver candidates d last from to =
    (place : ℕ) (candidate : CandOf) → from ≤ place → place < to → slice_get candidates place ≡ Some candidate
    → IsFalse (takes_over last candidate d)

-- These are the rising places, from one place on, of all candidates that take over, each from the one before
-- it, and the first from `last`, if there is one. Those between are passed over.
abbrev pub AreTakers : List CandOf → List ℕ → Option CandOf → ℕ → List ℕ → Type 0
AreTakers candidates d last from [] = ArePassedOver candidates d last from (length candidates)
AreTakers candidates d last from (place ∷ places) =
    (from ≤ place) × ArePassedOver candidates d last from place
    × ((taker : CandOf) × (slice_get candidates place ≡ Some taker) × IsTrue (takes_over last taker d)
    × AreTakers candidates d (Some taker) (place + 1) places)

-- the candidate at the last of the places, where there is one
abbrev pub last_taker : List CandOf → Option CandOf → List ℕ → Option CandOf
last_taker candidates last [] = last
last_taker candidates last (place ∷ places) = last_taker candidates (slice_get candidates place) places

-- it is the last that takes over, none where none does
abbrev pub IsSelected : List CandOf → List ℕ → Option CandOf → Type 0
IsSelected candidates d chosen =
    (places : List ℕ) × AreTakers candidates d None 0 places × (chosen ≡ last_taker candidates None places)

-- the places at which steps take over, of which the first stands at this place
abbrev pub places_taken : ℕ → List Step → List ℕ
places_taken place [] = []
places_taken place (TookOver ∷ steps) = place ∷ places_taken (place + 1) steps
places_taken place (NoMatch ∷ steps) = places_taken (place + 1) steps
places_taken place (KeptOut ∷ steps) = places_taken (place + 1) steps

-- there is one such, and it is this; and the steps that take over are those at such places
pub record IsTheSelected (candidates : List CandOf) (d : List ℕ) (chosen : Option CandOf) : Type 0 where
  pub is : IsSelected candidates d chosen
  pub only : (other : Option CandOf) → IsSelected candidates d other → other ≡ chosen
  pub steps : AreTakers candidates d None 0 (places_taken 0 (scan_candidates step_of None candidates d))

-- the last of some places, or this one where there are none
abbrev pub last_place : Option ℕ → List ℕ → Option ℕ
last_place found [] = found
last_place found (place ∷ places) = last_place (Some place) places

-- The place, among candidates, of the one that a device selects: none where none matches. Two candidates that are equal stand at
-- two places, and one of them is selected.
unfoldable pub picked_at : List CandOf → List ℕ → Option ℕ
picked_at candidates d = last_place None (places_taken 0 (scan_candidates step_of None candidates d))
