-- Which of the candidates of an id does a device select? (AOSP: ResTable::getEntry.) A device is the list
-- of its numbers.
use Rattle.std.specs.Prelude.{ℕ, Bool, true, ◌&&◌, ◌||◌, List, [], ◌∷◌, Option, Some, None, if◌then◌else◌}
use Rattle.config_precedence.specs.config_match.Matching.{is_match}
use Rattle.config_precedence.specs.Precedence.{is_better}
use Rattle.config_precedence.specs.EqualRecord.{is_same}
use Rattle.overlay_map.specs.Layer.{LayerOf}
use Rattle.overlay_map.specs.Candidates.{CandOf, candidates_of}
use Rattle.reference_resolver.specs.declared.step.Step.{Step}
use Rattle.reference_resolver.specs.declared.step.Step.TheVariants.{NoMatch, KeptOut, TookOver}

-- the first is better than the second, or it is of an overlay and its record is equal
unfoldable pub beats : CandOf → CandOf → List ℕ → Bool
beats candidate best d =
    is_better candidate.row.config best.row.config d
    || (candidate.overlay && is_same candidate.row.config best.row.config)

-- where there is no best so far, any candidate beats it
abbrev pub beats_best : Option CandOf → CandOf → List ℕ → Bool
beats_best None candidate d = true
beats_best (Some best) candidate d = beats candidate best d

-- what a candidate does to the best so far: it takes over where it matches and beats it
abbrev pub step_of : Option CandOf → CandOf → List ℕ → Step
step_of best candidate d =
    if is_match candidate.row.config d then (if beats_best best candidate d then TookOver else KeptOut)
    else NoMatch

-- the best after such a step
abbrev pub best_after : Step → Option CandOf → CandOf → Option CandOf
best_after NoMatch best candidate = best
best_after KeptOut best candidate = best
best_after TookOver best candidate = Some candidate

-- A note of each candidate in turn, by the best before it. This one is the best before them all.
abbrev pub scan_candidates : {X : Type 0} → (Option CandOf → CandOf → List ℕ → X) → Option CandOf → List CandOf → List ℕ → List X
scan_candidates note best [] d = []
scan_candidates note best (candidate ∷ candidates) d =
    note best candidate d ∷ scan_candidates note (best_after (step_of best candidate d) best candidate) candidates d

-- the best after them
abbrev pub best_of : Option CandOf → List CandOf → List ℕ → Option CandOf
best_of best [] d = best
best_of best (candidate ∷ candidates) d =
    best_of (best_after (step_of best candidate d) best candidate) candidates d

-- the candidate of an id that a device selects: none, where none matches
unfoldable pub selected : List LayerOf → ℕ → List ℕ → Option CandOf
selected stack id d = best_of None (candidates_of stack id) d
