-- The devices that show why a rule fails.
use Rattle.std.specs.Prelude.{◌≡◌, ◌≢◌, ℕ, ◌≤◌, List, Some, slice_get}
use Rattle.box_trace.specs.config_record.declared.coord.Coord.{Coord}
use Rattle.box_trace.specs.config_record.ComparedNumber.{device_number}
use Rattle.box_trace.specs.config_record.DeviceSeen.{device_numbers}
use Rattle.box_trace.specs.reference_resolver.declared.end.End.{End}
use Rattle.box_trace.specs.reference_resolver.Trace.{Trace}
use Rattle.box_trace.specs.overlay_map.Layer.{LayerOf}
use Rattle.cert_tree.specs.box_answers.NumberSet.{SetOf}
use Rattle.cert_tree.specs.box_answers.Members.{set_at, IsMember}
use Rattle.cert_tree.specs.box_answers.Sameness.{AreNeighbours}
use Rattle.box_trace.specs.Division.{Divides}
use Rattle.cert_tree.specs.Certificate.{NodeOf, GoalOf}
use Rattle.cert_checker.specs.declared.rule.Rule.{Rule}
use Rattle.cert_checker.specs.declared.rule.Rule.TheVariants.{GoalList, MixedTrace, NoValue, OtherValue}
use Rattle.cert_checker.specs.declared.verdict.Shown.{Shown}
use Rattle.cert_checker.specs.declared.verdict.Shown.TheVariants.{Nothing, Two, One}
use Rattle.cert_checker.specs.Paths.{ComesTo}
use Rattle.cert_checker.specs.FirstFault.{goal_trace}

-- two members of a box that differ in this coordinate alone, and by one where it is a range
pub record AreSideBySide (sets : List SetOf) (x y : List ℕ) (c : Coord) : Type 0 where
  pub x_member : IsMember sets x
  pub y_member : IsMember sets y
  pub others : (k : Coord) → k ≢ c → device_number x k ≡ device_number y k
  pub near : AreNeighbours (set_at sets c) (device_number x c) (device_number y c)

-- Two members that differ in one coordinate alone, by one where the box has a range. At the first question that members
-- answer differently the first answers yes, the second no.
pub record ShowTwoTraces (trace : List ℕ → Trace) (sets : List SetOf) (members : List ℕ → Type 0) (x y : List ℕ) : Type 0 where
  pub first : members x
  pub second : members y
  pub coord : Coord
  pub side_by_side : AreSideBySide sets x y coord
  pub divided : Divides members (λ d. (trace d).steps) x y

-- the member that has the least number of all members at each coordinate, and where the goal ends for it
pub record ShowsEnd (trace : List ℕ → Trace) (members : List ℕ → Type 0) (corner : List ℕ) (end : End) : Type 0 where
  pub member : members corner
  pub least : (d : List ℕ) (c : Coord) → members d → device_number corner c ≤ device_number d c
  pub ends : (trace corner).end ≡ end

-- where these members come to the node
abbrev pub Shows : (List ℕ → Trace) → List SetOf → (List ℕ → Type 0) → Rule → Shown → Type 0
Shows trace sets members MixedTrace (Two x y) = ShowTwoTraces trace sets members (device_numbers x) (device_numbers y)
Shows trace sets members NoValue (One corner end) = ShowsEnd trace members (device_numbers corner) end
Shows trace sets members OtherValue (One corner end) = ShowsEnd trace members (device_numbers corner) end
Shows trace sets members MixedTrace shown = ⊥
Shows trace sets members NoValue shown = ⊥
Shows trace sets members OtherValue shown = ⊥
Shows trace sets members rule shown = shown ≡ Nothing

-- at a node of a tree
abbrev pub ShowsAt : (List ℕ → Trace) → List SetOf → List NodeOf → ℕ → Rule → Shown → Type 0
ShowsAt trace sets nodes k rule shown = Shows trace sets (ComesTo sets nodes k) rule shown

-- at a node of a certificate; of another list of goals nothing is shown
abbrev pub ShowsIn : List LayerOf → List SetOf → List GoalOf → ℕ → ℕ → Rule → Shown → Type 0
ShowsIn stack sets trees g k GoalList shown = shown ≡ Nothing
ShowsIn stack sets trees g k rule shown =
    (tree : GoalOf) → slice_get trees g ≡ Some tree → ShowsAt (goal_trace stack tree.goal) sets tree.nodes k rule shown
