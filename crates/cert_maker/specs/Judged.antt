-- The first of the goals that are asked: some have their trees, the others are left out. (Cited by contracts of this crate
-- alone.)
use Rattle.std.specs.Prelude.{◌≡◌, ℕ, ◌+◌, ◌<◌, Bool, true, false, List, map, take, Some, slice_get}
use Rattle.std.specs.List.{All}
use Rattle.std.specs.List.Sorted.{IsStrictlyIncreasing}
use Rattle.cert_checker.specs.config_record.DeviceSeen.{device_numbers}
use Rattle.cert_checker.specs.overlay_map.Layer.{LayerOf}
use Rattle.cert_checker.specs.box_answers.NumberSet.{SetOf}
use Rattle.cert_checker.specs.cert_tree.Certificate.{GoalOf, goal_of, node_count}
use Rattle.cert_checker.specs.res_value.Goal.{GoalSeen}
use Rattle.cert_checker.specs.FirstFault.{goals_in}
use Rattle.cert_maker.specs.declared.omitted.Omitted.{Omitted}
use Rattle.cert_maker.specs.declared.omitting.Judged.{Judged}
use Rattle.cert_maker.specs.Trees.{IsGoodTree}
use Rattle.cert_maker.specs.Made.{HasNoValue}
use Rattle.cert_maker.specs.Omitting.{places_of, without, PassesLimit}

-- The goals up to a place have their trees, or are left out. There are so many nodes to spare.
pub record AreJudged (stack : List LayerOf) (sets : List SetOf) (asked : List GoalSeen) (place most : ℕ) (trees : List GoalOf) (omitted : List Omitted) (spare : ℕ) : Type 0 where
  pub goals : goals_in trees ≡ without (places_of omitted) (take place asked)
  pub good : All (IsGoodTree stack sets) trees
  pub rise : IsStrictlyIncreasing (places_of omitted)
  pub each : All (λ o. HasNoValue stack sets asked o.goal (device_numbers o.device) o.ending) omitted
  pub before : All (λ n. n < place) (places_of omitted)
  pub room : node_count trees + spare ≡ most

-- the same of goals that are being judged
abbrev pub AreJudgedIn : List LayerOf → List SetOf → List GoalSeen → ℕ → ℕ → Judged → Type 0
AreJudgedIn stack sets asked place most judged = AreJudged stack sets asked place most (map goal_of judged.grown.items) judged.omitted.items judged.spare

-- whatever goals are asked, and whatever the limit is: the goal at this place is judged, or they go beyond the limit
abbrev pub Judges : List LayerOf → List SetOf → ℕ → GoalSeen → Judged → Judged → Bool → Type 0
Judges stack sets place goal old new true =
    (asked : List GoalSeen) (most : ℕ) → slice_get asked place ≡ Some goal → AreJudgedIn stack sets asked place most old
    → AreJudgedIn stack sets asked (place + 1) most new
Judges stack sets place goal old new false =
    (asked : List GoalSeen) (most : ℕ) → slice_get asked place ≡ Some goal → AreJudgedIn stack sets asked place most old
    → PassesLimit stack sets asked most
