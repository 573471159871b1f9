-- Which candidates of a look-up concern the members of a box?
use Rattle.std.specs.Prelude.{◌≡◌, ◌⊎◌, ◌↔◌, ℕ, Bool, true, false, IsTrue, List, [], ◌∷◌, map}
use Rattle.std.specs.List.{All}
use Rattle.config_box.specs.box_answers.MemberAnswers.{AllAnswer, SomeAnswers}
use Rattle.bags_themes.specs.config_match.Matching.{is_match}
use Rattle.bags_themes.specs.overlay_map.declared.candidate.Cand.{Cand}
use Rattle.bags_themes.specs.overlay_map.Candidates.{CandOf, cand_of}

-- a candidate, and whether it is marked
pub record LiveOf : Type 0 where
  pub candidate : CandOf
  pub marked : Bool

abbrev pub live_of : Cand × Bool → LiveOf
live_of live = record { candidate = cand_of live.0; marked = live.1 }

-- the candidates alone
abbrev pub candidates_in : List LiveOf → List CandOf
candidates_in live = map (λ l. l.candidate) live

-- whether a candidate matches a device
abbrev pub does_match : CandOf → List ℕ → Bool
does_match candidate d = is_match candidate.row.config d

-- The second list is the first without some that match no member, in the same order.
abbrev pub LeavesOut : (List ℕ → Type 0) → List CandOf → List CandOf → Type 0
LeavesOut members [] [] = Unit {0}
LeavesOut members [] (other ∷ kept) = ⊥
LeavesOut members (candidate ∷ candidates) [] = AllAnswer members (does_match candidate) false × LeavesOut members candidates []
LeavesOut members (candidate ∷ candidates) (other ∷ kept) =
    (AllAnswer members (does_match candidate) false × LeavesOut members candidates (other ∷ kept)) ⊎ ((candidate ≡ other) × LeavesOut members candidates kept)

-- each that is marked matches all members
abbrev pub MarkedMatchAll : (List ℕ → Type 0) → List LiveOf → Type 0
MarkedMatchAll members live = All (λ l. IsTrue l.marked → AllAnswer members (does_match l.candidate) true) live

-- it matches some member, and is marked just where it matches all
pub record IsLive (members : List ℕ → Type 0) (live : LiveOf) : Type 0 where
  pub some : SomeAnswers members (does_match live.candidate) true
  pub mark : IsTrue live.marked ↔ AllAnswer members (does_match live.candidate) true

-- of these candidates those that match some member, in their order, each marked just where it matches all
pub record AreLive (members : List ℕ → Type 0) (candidates : List CandOf) (live : List LiveOf) : Type 0 where
  pub others : LeavesOut members candidates (candidates_in live)
  pub each : All (IsLive members) live
