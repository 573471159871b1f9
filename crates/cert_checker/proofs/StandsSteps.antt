-- The goal that stands at a place is the one that is asked, or it is another.
use Rattle.std.proofs.Common.{◌≡◌, ◌≢◌, ◌<◌, ℕ, Bool, true, false, nat_lt, List, length, map, get_or, Some, sym, ◌∙◌, ap, arith}
use Rattle.std.specs.Prelude.{slice_get, MatchBool}
use Rattle.std.proofs.lemmas.Bool.Decides.{nat_tests}
use Rattle.cert_tree.specs.res_value.declared.goal.Goal.{Goal}
use Rattle.cert_tree.specs.res_value.Goal.{GoalSeen, goal_seen}
use Rattle.cert_checker.proofs.TreeSteps.{seen_at}

told : (r : Bool) (seen : List GoalSeen) (place : ℕ) (found asked : GoalSeen) → slice_get seen place ≡ Some found → MatchBool r (found ≡ asked) (found ≢ asked)
    → MatchBool r (slice_get seen place ≡ Some asked) (slice_get seen place ≢ Some asked)
told true seen place found asked at same = at ∙ ap (λ (g : GoalSeen). Some g) same
told false seen place found asked at other = λ e. other (let h : Some found ≡ Some asked = sym at ∙ e in cc)

pub stands_if_same : (r : Bool) (goals : List Goal) (place : ℕ) (found asked : Goal) → true ≡ nat_lt place (length goals) → found ≡ get_or goals place found
    → MatchBool r (goal_seen found ≡ goal_seen asked) (goal_seen found ≢ goal_seen asked)
    → MatchBool r (slice_get (map goal_seen goals) place ≡ Some (goal_seen asked)) (slice_get (map goal_seen goals) place ≢ Some (goal_seen asked))
stands_if_same r goals place found asked within is same =
    let inside : place < length goals = grind (arith, nat_tests) in
    told r (map goal_seen goals) place (goal_seen found) (goal_seen asked) (seen_at goal_seen goals place found inside is) same
