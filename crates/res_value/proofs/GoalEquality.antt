-- Goals are equal where they ask the same.
use Rattle.std.proofs.Common.{◌≡◌, ◌≢◌, MatchBool, Bool, true, false, ◌==◌, ◌&&◌, ap, sym, refl}
use Rattle.std.specs.Bool.{Decides}
use Rattle.std.specs.Cmp.{unsigned_Decides}
use Rattle.std.specs.Cmp.Lexicographic.{pointwise, pointwise_decides}
use Rattle.res_value.specs.declared.res_id.ResId.{ResId}
use Rattle.res_value.specs.contracts.goal.GoalPartialEq.TheImpl.{eq-value}
use Rattle.res_value.specs.declared.goal.Goal.{Goal}
use Rattle.res_value.specs.declared.goal.Goal.TheVariants as goals
use Rattle.res_value.specs.Goal.{IdGoal, goal_seen}

abbrev same_id : ResId → ResId → Bool
same_id i j = i.0 == j.0

id-Decides : (i j : ResId) → Decides (same_id i j) (i ≡ j)
id-Decides i j = let d = unsigned_Decides i.0 j.0 in (λ e. ap (λ n. record { 0 = n }) (d.0 e), λ e. d.1 (ap (λ (k : ResId). k.0) e))

both : (p q : Bool) → p && q ≡ true → (p ≡ true) × (q ≡ true)
both true true e = (refl, refl)
both true false e = absurd cc
both false q e = absurd cc

goal-Decides : (a b : Goal) → Decides (eq-value.it a b) (goal_seen a ≡ goal_seen b)
goal-Decides (goals.Id i) (goals.Id j) =
    let ids = id-Decides i j in
    (λ e. ap (λ k. IdGoal k) (ids.0 e), λ e. ids.1 (let same = e in cc))
goal-Decides (goals.Attr i s) (goals.Attr j t) =
    let ids = id-Decides i j in
    let styles = pointwise_decides id-Decides s.items t.items in (
      λ e. (let h = both (same_id i j) (pointwise same_id s.items t.items) e in let p = ids.0 h.0 in let q = styles.0 h.1 in cc),
      λ e. (let p = ids.1 (let same = e in cc) in let q = styles.1 (let same = e in cc) in rw (p, q) refl),
    )
goal-Decides (goals.Id i) (goals.Attr j t) = (λ e. absurd cc, λ e. absurd cc)
goal-Decides (goals.Attr i s) (goals.Id j) = (λ e. absurd cc, λ e. absurd cc)

-- what `==` of two goals says
pub told_goals : (a b : Goal) (r : Bool) → r ≡ eq-value.it a b → MatchBool r (goal_seen a ≡ goal_seen b) (goal_seen a ≢ goal_seen b)
told_goals a b true e = (goal-Decides a b).0 (sym e)
told_goals a b false e = λ same. (let yes = (goal-Decides a b).1 same in absurd cc)
