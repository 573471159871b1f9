-- What the maker promises where it leaves goals out.
use Rattle.std.specs.Prelude.{◌≡◌, ◌==◌, ℕ, Bool, true, List, [], ◌∷◌, ◌++◌, map, not, take, Some, slice_get}
use Rattle.std.specs.List.{All, enumerate_from, filter, list_any}
use Rattle.std.specs.List.Sorted.{IsStrictlyIncreasing}
use Rattle.cert_checker.specs.config_record.DeviceSeen.{device_numbers}
use Rattle.cert_checker.specs.overlay_map.Layer.{LayerOf}
use Rattle.cert_checker.specs.reference_resolver.declared.end.End.{End}
use Rattle.cert_checker.specs.reference_resolver.Ends.{is_value}
use Rattle.cert_checker.specs.box_answers.NumberSet.{SetOf}
use Rattle.cert_checker.specs.box_answers.Members.{IsMember}
use Rattle.cert_checker.specs.Headline.{RulesEndAt}
use Rattle.cert_checker.specs.res_value.Goal.{GoalSeen}
use Rattle.cert_maker.specs.declared.made.Made.{Made}
use Rattle.cert_maker.specs.declared.made.Made.TheVariants as made
use Rattle.cert_maker.specs.declared.omitted.Omitted.{Omitted}
use Rattle.cert_maker.specs.declared.omitted.Omitting.{Omitting}
use Rattle.cert_maker.specs.declared.omitted.Omitting.TheVariants.{Cert, NodeLimit}
use Rattle.cert_maker.specs.Made.{HasNoValue, IsMade, CanBeWritten}
use Rattle.cert_maker.specs.Least.{IsLeast}

-- the places of goals that are left out
abbrev pub places_of : List Omitted → List ℕ
places_of omitted = map (λ o. o.goal) omitted

-- whether a goal stands at none of these places
abbrev pub is_kept : List ℕ → (ℕ × GoalSeen) → Bool
is_kept places placed = not (list_any (λ place. place == placed.0) places)

-- the goals that stand at none of these places, counted from 0, in their order
abbrev pub without : List ℕ → List GoalSeen → List GoalSeen
without places goals = map (λ placed. placed.1) (filter (is_kept places) (enumerate_from 0 goals))

-- at each member of the box the goal ends at a value or a bag
abbrev pub HasValues : List LayerOf → List SetOf → GoalSeen → Type 0
HasValues stack sets goal = (d : List ℕ) → IsMember sets d → (end : End) × RulesEndAt stack goal d end × (is_value end ≡ true)

-- Left out are just the goals that have no value at some member. Their places rise; the goal at each ends at no value and no
-- bag at its device, which is one of the box, but there; and each other goal has values.
pub record AreLeftOut (stack : List LayerOf) (sets : List SetOf) (asked : List GoalSeen) (omitted : List Omitted) : Type 0 where
  pub rise : IsStrictlyIncreasing (places_of omitted)
  pub each : All (λ o. HasNoValue stack sets asked o.goal (device_numbers o.device) o.ending) omitted
  pub others : All (HasValues stack sets) (without (places_of omitted) asked)

-- these are left out, and this is an answer to the goals without them that keeps all that the maker promises
pub record IsMadeWithout (stack : List LayerOf) (sets : List SetOf) (asked : List GoalSeen) (most : ℕ) (omitted : List Omitted) (made : Made) : Type 0 where
  pub left_out : AreLeftOut stack sets asked omitted
  pub right : IsMade stack sets (without (places_of omitted) asked) most made
  pub least : IsLeast stack sets (without (places_of omitted) asked) most made
  pub fits : CanBeWritten sets made

-- The limit is passed at a goal. Of the goals before it those without a value are left out, and the others go beyond the limit
-- together with it. It may itself have no value at some member.
pub record PassesLimit (stack : List LayerOf) (sets : List SetOf) (asked : List GoalSeen) (most : ℕ) : Type 0 where
  pub place : ℕ
  pub goal : GoalSeen
  pub stands : slice_get asked place ≡ Some goal
  pub omitted : List Omitted
  pub left_out : AreLeftOut stack sets (take place asked) omitted
  pub right : IsMade stack sets (without (places_of omitted) (take place asked) ++ goal ∷ []) most made.NodeLimit
  pub least : IsLeast stack sets (without (places_of omitted) (take place asked) ++ goal ∷ []) most made.NodeLimit

-- a certificate of the goals without those that are left out; or the limit is passed
abbrev pub IsOmitting : List LayerOf → List SetOf → List GoalSeen → ℕ → Omitting → Type 0
IsOmitting stack sets asked most (Cert certificate omitted) = IsMadeWithout stack sets asked most omitted.items (made.Cert certificate)
IsOmitting stack sets asked most NodeLimit = PassesLimit stack sets asked most
