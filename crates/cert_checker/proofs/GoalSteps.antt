-- The list of goals, and from goal to goal.
use Rattle.std.proofs.Common.{◌≡◌, ◌≢◌, ℕ, ◌+◌, ◌<◌, ◌≤◌, inl, inr, arith, suc, List, [], ◌∷◌, length, map, get_or, Option, Some, None, sym, ◌∙◌, ap, refl, subst}
use Rattle.std.specs.Prelude.{slice_get}
use Rattle.std.proofs.lemmas.Bool.{cases_lt}
use Rattle.std.proofs.lemmas.Option.{slice_get_past, slice_get_within, slice_get_cases, slice_get-map}
use Rattle.std.proofs.lemmas.List.{length-map}
use Rattle.std.specs.Option.{option_map}
use Rattle.box_trace.specs.overlay_map.Layer.{LayerOf}
use Rattle.cert_tree.specs.box_answers.NumberSet.{SetOf}
use Rattle.cert_tree.specs.declared.cert.CertGoal.{CertGoal}
use Rattle.cert_tree.specs.Certificate.{NodeOf, TestAt, ValueAt, BagAt, GoalOf, goal_of}
use Rattle.cert_tree.specs.res_value.Goal.{GoalSeen, goal_seen}
use Rattle.cert_checker.specs.declared.rule.Rule.{Rule}
use Rattle.cert_checker.specs.declared.rule.Rule.TheVariants as rules
use Rattle.cert_checker.specs.declared.verdict.Shown.{Shown}
use Rattle.cert_checker.specs.declared.verdict.Verdict.TheVariants.{Rejected}
use Rattle.cert_checker.specs.Fails.{Fails, FailsAt, FailsFirst}
use Rattle.cert_checker.specs.Paths.{Path, open_at}
use Rattle.cert_checker.specs.FirstFault.{goal_trace, goals_in, NoRuleFailsIn, IsAccepted, FailsFirstIn}
use Rattle.cert_checker.specs.Shown.{ShowsAt}
use Rattle.cert_checker.specs.Verdict.{IsVerdict}
use Rattle.cert_checker.proofs.TreeSteps.{seen_at}

-- ---- the list of goals

-- two lists whose items are the same are the same
pub same_items : {A : Type 0} (xs ys : List A) → ((k : ℕ) → slice_get xs k ≡ slice_get ys k) → xs ≡ ys
same_items [] [] same = refl
same_items [] (y ∷ ys) same = let no = same 0 in absurd cc
same_items (x ∷ xs) [] same = let no = same 0 in absurd cc
same_items (x ∷ xs) (y ∷ ys) same = let first = same 0 in let others = same_items xs ys (λ k. same (suc k)) in cc

-- so are those of which one is as far as it goes the beginning of the other, and not shorter
pub same_so_far : {A : Type 0} (xs ys : List A) (n : ℕ) → length xs ≤ n → length ys ≤ length xs → ((k : ℕ) → k < n → slice_get xs k ≡ slice_get ys k) → xs ≡ ys
same_so_far xs ys n past few same = same_items xs ys at
  where
    at : (k : ℕ) → slice_get xs k ≡ slice_get ys k
    at k = elim (cases_lt k n) [ inl lt ↦ same k lt | inr le ↦ slice_get_past xs k (omega arith) ∙ sym (slice_get_past ys k (omega arith)) ]

-- a list that ends where the other does not differs from it there
pub shorter : (found asked : List GoalSeen) (n : ℕ) → length found ≤ n → n < length asked → slice_get found n ≢ slice_get asked n
shorter found asked n past within e =
    elim (slice_get_cases asked n).1 [ inl h ↦ (let no = sym (slice_get_past found n past) ∙ e ∙ h.2 in cc) | inr h ↦ omega (arith, h.0) ]

-- the goal of a tree
pub goal_at : (trees : List CertGoal) (k : ℕ) (tree : CertGoal) → k < length trees → tree ≡ get_or trees k tree → slice_get (goals_in (map goal_of trees)) k ≡ Some (goal_seen tree.goal)
goal_at trees k tree within is = slice_get-map (λ (t : GoalOf). t.goal) (map goal_of trees) k ∙ ap (option_map (λ (t : GoalOf). t.goal)) (seen_at goal_of trees k tree within is)

pub goals-count : (trees : List CertGoal) → length (goals_in (map goal_of trees)) ≡ length trees
goals-count trees = length-map (map goal_of trees) (λ (t : GoalOf). t.goal) ∙ length-map trees goal_of

-- the same goals stand before a place, and at it
pub same_more : (found asked : List GoalSeen) (n : ℕ) → ((k : ℕ) → k < n → slice_get found k ≡ slice_get asked k) → slice_get found n ≡ slice_get asked n → (k : ℕ) → k < n + 1 → slice_get found k ≡ slice_get asked k
same_more found asked n before here k p =
    elim (cases_lt k n) [
      | inl lt ↦ before k lt
      | inr le ↦ (let at : k ≡ n = omega arith in subst (λ (i : ℕ). slice_get found i ≡ slice_get asked i) (sym at) here)
    ]

-- ---- a tree of which a rule fails

-- no rule of a node is that of the list of goals
not_of_goals : (stack : List LayerOf) (sets : List SetOf) (tree : GoalOf) (k : ℕ) → Fails (goal_trace stack tree.goal) sets tree.nodes k rules.GoalList → ⊥
unfolding Fails
not_of_goals stack sets tree k f = at (slice_get tree.nodes k) (open_at tree.nodes k) f
  where
    at : (o : Option NodeOf) (paths : List Path) → FailsAt (goal_trace stack tree.goal) sets o paths rules.GoalList → ⊥
    at None [] f = f
    at None (path ∷ paths) f = cc
    at (Some node) [] f = cc
    at (Some (TestAt test)) (path ∷ paths) f = f
    at (Some (ValueAt layer value)) (path ∷ paths) f = f
    at (Some (BagAt id)) (path ∷ paths) f = f

-- no rule fails in the trees before a place
abbrev pub ArePassed : List LayerOf → List SetOf → List GoalOf → ℕ → Type 0
ArePassed stack sets trees g = (h : ℕ) (tree : GoalOf) → h < g → slice_get trees h ≡ Some tree → NoRuleFailsIn stack sets tree

pub passed_tree : (stack : List LayerOf) (sets : List SetOf) (trees : List GoalOf) (g : ℕ) (tree : GoalOf) → slice_get trees g ≡ Some tree → ArePassed stack sets trees g → NoRuleFailsIn stack sets tree → ArePassed stack sets trees (g + 1)
passed_tree stack sets trees g tree at before here h other p is =
    elim (cases_lt h g) [
      | inl lt ↦ before h other lt is
      | inr le ↦ (let same : h ≡ g = omega arith in
          let found : other ≡ tree = (let there = sym is ∙ ap (slice_get trees) same ∙ at in cc) in
          subst (λ (t : GoalOf). NoRuleFailsIn stack sets t) (sym found) here)
    ]

pub all_passed : (stack : List LayerOf) (sets : List SetOf) (asked : List GoalSeen) (trees : List GoalOf) (g : ℕ) → goals_in trees ≡ asked → length trees ≤ g → ArePassed stack sets trees g → IsAccepted stack sets asked trees
all_passed stack sets asked trees g e past before = record {
  goals = e;
  passes = λ h tree at. before h tree (omega (arith, slice_get_within trees h tree at)) at;
}

-- the fault of a tree is that of the certificate
first_of : (stack : List LayerOf) (sets : List SetOf) (asked : List GoalSeen) (trees : List GoalOf) (g k : ℕ) (tree : GoalOf) (rule : Rule) → goals_in trees ≡ asked → slice_get trees g ≡ Some tree → ArePassed stack sets trees g
    → FailsFirst (goal_trace stack tree.goal) sets tree.nodes k rule → FailsFirstIn stack sets asked trees g k rule
first_of stack sets asked trees g k tree rule e at before f = record { goals = e; before = before; tree = tree; stands = at; fails = f }

shown_of : (stack : List LayerOf) (sets : List SetOf) (trees : List GoalOf) (g k : ℕ) (tree : GoalOf) (rule : Rule) (shown : Shown) → slice_get trees g ≡ Some tree → ShowsAt (goal_trace stack tree.goal) sets tree.nodes k rule shown
    → (other : GoalOf) → slice_get trees g ≡ Some other → ShowsAt (goal_trace stack other.goal) sets other.nodes k rule shown
shown_of stack sets trees g k tree rule shown at s other is =
    let same : tree ≡ other = (let there = sym at ∙ is in cc) in
    subst (λ (t : GoalOf). ShowsAt (goal_trace stack t.goal) sets t.nodes k rule shown) same s

pub rejected : (stack : List LayerOf) (sets : List SetOf) (asked : List GoalSeen) (trees : List GoalOf) (g k : ℕ) (tree : GoalOf) (rule : Rule) (shown : Shown) → goals_in trees ≡ asked → slice_get trees g ≡ Some tree → ArePassed stack sets trees g
    → FailsFirst (goal_trace stack tree.goal) sets tree.nodes k rule → ShowsAt (goal_trace stack tree.goal) sets tree.nodes k rule shown
    → IsVerdict stack sets asked trees (Rejected g k rule shown)
rejected stack sets asked trees g k tree rules.GoalList shown e at before f s = absurd (not_of_goals stack sets tree k f.fails)
rejected stack sets asked trees g k tree rules.EndsEarly shown e at before f s = (first_of stack sets asked trees g k tree rules.EndsEarly e at before f, shown_of stack sets trees g k tree rules.EndsEarly shown at s)
rejected stack sets asked trees g k tree rules.LeftOver shown e at before f s = (first_of stack sets asked trees g k tree rules.LeftOver e at before f, shown_of stack sets trees g k tree rules.LeftOver shown at s)
rejected stack sets asked trees g k tree rules.TestKind shown e at before f s = (first_of stack sets asked trees g k tree rules.TestKind e at before f, shown_of stack sets trees g k tree rules.TestKind shown at s)
rejected stack sets asked trees g k tree rules.EmptyHalf shown e at before f s = (first_of stack sets asked trees g k tree rules.EmptyHalf e at before f, shown_of stack sets trees g k tree rules.EmptyHalf shown at s)
rejected stack sets asked trees g k tree rules.MixedTrace shown e at before f s = (first_of stack sets asked trees g k tree rules.MixedTrace e at before f, shown_of stack sets trees g k tree rules.MixedTrace shown at s)
rejected stack sets asked trees g k tree rules.NoValue shown e at before f s = (first_of stack sets asked trees g k tree rules.NoValue e at before f, shown_of stack sets trees g k tree rules.NoValue shown at s)
rejected stack sets asked trees g k tree rules.OtherValue shown e at before f s = (first_of stack sets asked trees g k tree rules.OtherValue e at before f, shown_of stack sets trees g k tree rules.OtherValue shown at s)
