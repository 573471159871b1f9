-- The trace of an id at a device: what each candidate of its look-ups does, and where the id ends.
use Rattle.std.specs.Prelude.{ℕ, zero, suc, ◌≡◌, List, [], ◌∷◌, map, Option, None}
use Rattle.std.specs.List.{flat_map}
use Rattle.overlay_map.specs.res_value.declared.res_id.ResId.{ResId}
use Rattle.overlay_map.specs.Layer.{LayerOf}
use Rattle.overlay_map.specs.Candidates.{CandOf, candidates_of}
use Rattle.reference_resolver.specs.declared.end.End.{End}
use Rattle.reference_resolver.specs.declared.next.Next.{Next}
use Rattle.reference_resolver.specs.declared.next.Next.TheVariants.{LookUp, EndsAt}
use Rattle.reference_resolver.specs.declared.step.Step.{Step}
use Rattle.reference_resolver.specs.declared.decision.Decision.{Decision}
use Rattle.reference_resolver.specs.Selection.{selected, step_of, scan_candidates}
use Rattle.reference_resolver.specs.Decision.{decision_of, step_by}
use Rattle.reference_resolver.specs.Ends.{next_of, end_of}

-- ---- the look-ups

abbrev look_ups_by : (ResId → List ℕ) → Next → List ℕ
look_ups_by after (LookUp target) = after target
look_ups_by after (EndsAt end) = []

-- The ids that are looked up, one after the other, where at most so many references are followed: the first,
-- and after each one that selects a reference the id that it names.
abbrev pub look_ups_of : List LayerOf → ℕ → ℕ → List ℕ → List ℕ
look_ups_of stack zero id d = id ∷ []
look_ups_of stack (suc most) id d =
    id ∷ look_ups_by (λ target. look_ups_of stack most target.0 d) (next_of id (selected stack id d))

-- ---- a note of each candidate

-- of those of an id, in their order
abbrev pub scan_look_up : {X : Type 0} → (Option CandOf → CandOf → List ℕ → X) → List LayerOf → List ℕ → ℕ → List X
scan_look_up note stack d id = scan_candidates note None (candidates_of stack id) d

-- of those of each id that is looked up
abbrev pub scan_chain : {X : Type 0} → (Option CandOf → CandOf → List ℕ → X) → List LayerOf → ℕ → ℕ → List ℕ → List X
scan_chain note stack most id d = flat_map (scan_look_up note stack d) (look_ups_of stack most id d)

-- a candidate, and what it does to the best before it and why
pub record TracedCandidateOf : Type 0 where
  pub candidate : CandOf
  pub decision : Decision

abbrev pub traced : Option CandOf → CandOf → List ℕ → TracedCandidateOf
traced best candidate d = record { candidate = candidate; decision = decision_of best candidate d }

-- ---- the trace

pub record Trace : Type 0 where
  -- what each candidate of each look-up does
  pub steps : List Step
  pub end : End

-- where at most so many references are followed
abbrev pub trace_of : List LayerOf → ℕ → ℕ → List ℕ → Trace
trace_of stack most id d = record { steps = scan_chain step_of stack most id d; end = end_of stack most id d }

-- What the traced candidates of all look-ups do is the trace.
unfoldable pub IsTraced : List LayerOf → ℕ → ℕ → List ℕ → Type 0
IsTraced stack most id d =
    map (λ candidate. step_by candidate.decision) (scan_chain traced stack most id d) ≡ (trace_of stack most id d).steps
