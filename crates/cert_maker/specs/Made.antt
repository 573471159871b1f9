-- What the maker promises of its answers.
use Rattle.std.specs.Prelude.{◌≡◌, ℕ, ◌<◌, ◌≤◌, false, List, Some, slice_get}
use Rattle.std.specs.List.{All}
use Rattle.cert_checker.specs.config_record.DeviceSeen.{device_numbers}
use Rattle.cert_checker.specs.reference_resolver.declared.end.End.{End}
use Rattle.cert_checker.specs.overlay_map.Layer.{LayerOf}
use Rattle.cert_checker.specs.box_answers.NumberSet.{SetOf}
use Rattle.cert_checker.specs.box_answers.Members.{IsMember}
use Rattle.cert_checker.specs.cert_tree.Certificate.{GoalOf, goals_of, node_count}
use Rattle.cert_checker.specs.res_value.Goal.{GoalSeen}
use Rattle.cert_checker.specs.reference_resolver.Ends.{is_value}
use Rattle.cert_checker.specs.FirstFault.{goal_trace, goals_in, IsAccepted}
use Rattle.cert_checker.specs.Headline.{RulesEndAt}
use Rattle.cert_maker.specs.FitsBox.{FitsBox}
use Rattle.cert_maker.specs.Needed.{IsNeeded}
use Rattle.cert_maker.specs.declared.made.Made.{Made}
use Rattle.cert_maker.specs.declared.made.Made.TheVariants.{Cert, Counter, NodeLimit}

-- each tree is one whose tests are needed
abbrev pub AreNeeded : List LayerOf → List SetOf → List GoalOf → Type 0
AreNeeded stack sets trees = (g : ℕ) (tree : GoalOf) → slice_get trees g ≡ Some tree → IsNeeded (goal_trace stack tree.goal) sets tree.nodes

-- a member of the box for which the goal ends here, at no value and no bag
pub record IsCounterexample (stack : List LayerOf) (sets : List SetOf) (goal : GoalSeen) (d : List ℕ) (end : End) : Type 0 where
  pub member : IsMember sets d
  pub ends : RulesEndAt stack goal d end
  pub no_value : is_value end ≡ false

-- one of the goals that are asked, counted from 0, has this member and end
abbrev pub HasNoValue : List LayerOf → List SetOf → List GoalSeen → ℕ → List ℕ → End → Type 0
HasNoValue stack sets asked g d end = (goal : GoalSeen) × (slice_get asked g ≡ Some goal) × IsCounterexample stack sets goal d end

-- a certificate that is accepted, of needed tests and within the limit; or a device for which one of the goals ends at no
-- value; or there are trees of needed tests for the goals that have together more nodes than the limit
abbrev pub IsMade : List LayerOf → List SetOf → List GoalSeen → ℕ → Made → Type 0
IsMade stack sets asked most (Cert certificate) =
    IsAccepted stack sets asked (goals_of certificate) × AreNeeded stack sets (goals_of certificate) × (node_count (goals_of certificate) ≤ most)
IsMade stack sets asked most (Counter g device end) = HasNoValue stack sets asked g (device_numbers device) end
IsMade stack sets asked most NodeLimit =
    (trees : List GoalOf) × (goals_in trees ≡ asked) × AreNeeded stack sets trees × (most < node_count trees)

-- What each node says is within the limits of the format. So the certificate reads back if it has not too many nodes, and no
-- goal that is asked has too many styles.
abbrev pub CanBeWritten : List SetOf → Made → Type 0
CanBeWritten sets (Cert certificate) = All (λ tree. All (FitsBox sets) tree.nodes) (goals_of certificate)
CanBeWritten sets (Counter g device end) = Unit {0}
CanBeWritten sets NodeLimit = Unit {0}
