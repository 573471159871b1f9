-- From goal to goal.
use Rattle.std.proofs.Common.{◌≡◌, ℕ, ◌+◌, ◌-◌, ◌<◌, ◌≤◌, arith, List, [], ◌∷◌, ◌++◌, append_assoc, append-nil, length, map, Some, sym, ◌∙◌, ap, refl, subst}
use Rattle.std.specs.Prelude.{slice_get}
use Rattle.std.specs.List.{All}
use Rattle.std.proofs.lemmas.List.{map-append, length-map}
use Rattle.std.proofs.lemmas.List.Elements.{All-get_or, All-cons, All-push, All-append, All-map, All-weaker}
use Rattle.std.proofs.lemmas.Option.{slice_get_within, get_or_from_slice_get}
use Rattle.cert_checker.specs.reference_resolver.declared.end.End.{End}
use Rattle.cert_checker.proofs.HeadlineSteps.{rules_end}
use Rattle.cert_checker.specs.overlay_map.Layer.{LayerOf}
use Rattle.cert_checker.specs.box_answers.NumberSet.{SetOf}
use Rattle.cert_checker.specs.cert_tree.declared.cert.CertGoal.{CertGoal}
use Rattle.cert_checker.specs.cert_tree.Certificate.{BagAt, GoalOf, goal_of, node_of, node_count}
use Rattle.cert_checker.specs.res_value.Goal.{GoalSeen, goal_seen}
use Rattle.cert_checker.specs.FirstFault.{goal_trace, goals_in, IsAccepted}
use Rattle.cert_maker.specs.FitsBox.{FitsBox}
use Rattle.cert_maker.specs.Needed.{IsNeeded}
use Rattle.cert_maker.specs.Made.{AreNeeded, IsCounterexample}
use Rattle.cert_maker.specs.Growth.{IsCounterexampleOf}
use Rattle.cert_maker.specs.Trees.{IsGoodTree, AreDone}

-- what holds of all holds of the one at a place
all-at : {A : Type 0} (P : A → Type 0) (xs : List A) (k : ℕ) (x : A) → All P xs → slice_get xs k ≡ Some x → P x
all-at P xs k x all is = subst P (get_or_from_slice_get xs k x x is) (All-get_or P xs k x (slice_get_within xs k x is) all)

slice_get-middle : {A : Type 0} (xs ys : List A) (y : A) → slice_get (xs ++ y ∷ ys) (length xs) ≡ Some y
slice_get-middle [] ys y = refl
slice_get-middle (x ∷ xs) ys y = slice_get-middle xs ys y

pub node_count-append : (trees others : List GoalOf) → node_count (trees ++ others) ≡ node_count trees + node_count others
node_count-append [] others = omega arith
node_count-append (tree ∷ trees) others = let e = node_count-append trees others in omega (arith, e)

-- the trees of goals, as contracts see them, and one more
pub pushed : (trees more : List CertGoal) (tree : CertGoal) (goal : GoalSeen) → more ≡ trees ++ tree ∷ [] → goal_seen tree.goal ≡ goal
    → map goal_of more ≡ map goal_of trees ++ (record { goal = goal; nodes = map node_of tree.nodes.items }) ∷ []
pushed trees more tree goal e same =
    ap (map goal_of) e ∙ map-append goal_of trees (tree ∷ []) ∙ ap (λ (g : GoalSeen). map goal_of trees ++ (record { goal = g; nodes = map node_of tree.nodes.items }) ∷ []) same

-- ---- goal by goal

-- the next goal has its tree
pub one-more : (stack : List LayerOf) (sets : List SetOf) (asked left : List GoalSeen) (most spare : ℕ) (trees : List GoalOf) (tree : GoalOf) → AreDone stack sets asked (tree.goal ∷ left) most trees spare → IsGoodTree stack sets tree
    → length tree.nodes ≤ spare + 1 → AreDone stack sets asked left most (trees ++ tree ∷ []) (spare + 1 - length tree.nodes)
one-more stack sets asked left most spare trees tree h good few =
    let count = node_count-append trees (tree ∷ []) in
    let room = h.room in
    record {
      goals = ap (λ (goals : List GoalSeen). goals ++ left) (map-append (λ (t : GoalOf). t.goal) trees (tree ∷ [])) ∙ append_assoc (goals_in trees) (tree.goal ∷ []) left ∙ h.goals;
      good = All-push (IsGoodTree stack sets) trees tree h.good good;
      room = omega (arith, count, room);
    }

-- the tests of a tree are needed
abbrev pub HasNeeded : List LayerOf → List SetOf → GoalOf → Type 0
HasNeeded stack sets tree = IsNeeded (goal_trace stack tree.goal) sets tree.nodes

have-needed : (stack : List LayerOf) (sets : List SetOf) (trees : List GoalOf) → All (IsGoodTree stack sets) trees → All (HasNeeded stack sets) trees
have-needed stack sets trees good = All-weaker (IsGoodTree stack sets) (HasNeeded stack sets) (λ tree is. is.needed) trees good

-- ---- all goals have their trees

pub accepted : (stack : List LayerOf) (sets : List SetOf) (asked : List GoalSeen) (most spare : ℕ) (trees : List GoalOf) → AreDone stack sets asked [] most trees spare
    → IsAccepted stack sets asked trees × AreNeeded stack sets trees × (node_count trees ≤ most)
accepted stack sets asked most spare trees h =
    let room = h.room in (
      record {
        goals = sym (append-nil (goals_in trees)) ∙ h.goals;
        passes = λ g tree is. (all-at (IsGoodTree stack sets) trees g tree h.good is).passes;
      },
      (λ g tree is. all-at (HasNeeded stack sets) trees g tree (have-needed stack sets trees h.good) is),
      omega (arith, room),
    )

pub written : (stack : List LayerOf) (sets : List SetOf) (trees : List GoalOf) → All (IsGoodTree stack sets) trees → All (λ (tree : GoalOf). All (FitsBox sets) tree.nodes) trees
written stack sets trees good = All-weaker (IsGoodTree stack sets) (λ (tree : GoalOf). All (FitsBox sets) tree.nodes) (λ tree is. is.fits) trees good

-- ---- the trees have more nodes than the limit

-- a goal with a bare leaf
abbrev bare : GoalSeen → GoalOf
bare goal = record { goal = goal; nodes = BagAt (record { 0 = 0 }) ∷ [] }

goals_in-bare : (goals : List GoalSeen) → goals_in (map bare goals) ≡ goals
goals_in-bare [] = refl
goals_in-bare (goal ∷ goals) = ap (λ (others : List GoalSeen). goal ∷ others) (goals_in-bare goals)

node_count-bare : (goals : List GoalSeen) → node_count (map bare goals) ≡ length goals
node_count-bare [] = refl
node_count-bare (goal ∷ goals) = let e = node_count-bare goals in omega (arith, e)

-- nothing is said of leaves
have-needed-bare : (stack : List LayerOf) (sets : List SetOf) (goals : List GoalSeen) → All (HasNeeded stack sets) (map bare goals)
have-needed-bare stack sets goals = All-map (HasNeeded stack sets) bare goals (λ k d within. (tt, tt))

pub more-goals : (stack : List LayerOf) (sets : List SetOf) (asked : List GoalSeen) (most : ℕ) → most < length asked
    → (trees : List GoalOf) × (goals_in trees ≡ asked) × AreNeeded stack sets trees × (most < node_count trees)
more-goals stack sets asked most more =
    let count = node_count-bare asked in
    (map bare asked, goals_in-bare asked, (λ g tree is. all-at (HasNeeded stack sets) (map bare asked) g tree (have-needed-bare stack sets asked) is), omega (arith, count))

-- the trees so far, one more, and a leaf for each goal behind it
pub with-bare : (stack : List LayerOf) (sets : List SetOf) (left : List GoalSeen) (most : ℕ) (done : List GoalOf) (tree : GoalOf) → All (IsGoodTree stack sets) done → HasNeeded stack sets tree
    → most < node_count done + length tree.nodes + length left → (trees : List GoalOf) × (goals_in trees ≡ goals_in done ++ tree.goal ∷ left) × AreNeeded stack sets trees × (most < node_count trees)
with-bare stack sets left most done tree good needed more =
    let trees = done ++ tree ∷ map bare left in
    let all = All-append (HasNeeded stack sets) done (tree ∷ map bare left) (have-needed stack sets done good) (All-cons (HasNeeded stack sets) tree (map bare left) needed (have-needed-bare stack sets left)) in
    let count = node_count-append done (tree ∷ map bare left) in
    let bare_count = node_count-bare left in (
      trees,
      map-append (λ (t : GoalOf). t.goal) done (tree ∷ map bare left) ∙ ap (λ (others : List GoalSeen). goals_in done ++ (tree.goal ∷ others)) (goals_in-bare left),
      (λ g t is. all-at (HasNeeded stack sets) trees g t all is),
      omega (arith, count, bare_count, more),
    )

-- the one more is too large
pub too-large : (stack : List LayerOf) (sets : List SetOf) (asked left : List GoalSeen) (most spare : ℕ) (done : List GoalOf) (tree : GoalOf) → AreDone stack sets asked (tree.goal ∷ left) most done spare
    → HasNeeded stack sets tree → spare + 1 < length tree.nodes → (trees : List GoalOf) × (goals_in trees ≡ asked) × AreNeeded stack sets trees × (most < node_count trees)
too-large stack sets asked left most spare done tree h needed more =
    let room = h.room in
    let found = with-bare stack sets left most done tree h.good needed (omega (arith, room, more)) in
    (found.0, found.1 ∙ h.goals, found.2, found.3)

-- ---- the next goal ends at no value

next-goal : (stack : List LayerOf) (sets : List SetOf) (asked left : List GoalSeen) (most spare : ℕ) (done : List GoalOf) (goal : GoalSeen) → AreDone stack sets asked (goal ∷ left) most done spare → slice_get asked (length done) ≡ Some goal
next-goal stack sets asked left most spare done goal h =
    ap (λ (goals : List GoalSeen). slice_get goals (length done)) (sym h.goals) ∙ ap (slice_get (goals_in done ++ goal ∷ left)) (sym (length-map done (λ (t : GoalOf). t.goal))) ∙ slice_get-middle (goals_in done) left goal

pub counterexample : (stack : List LayerOf) (sets : List SetOf) (goal : GoalSeen) (d : List ℕ) (end : End) → IsCounterexampleOf (goal_trace stack goal) sets d end → IsCounterexample stack sets goal d end
counterexample stack sets goal d end e = record { member = e.member; ends = rules_end stack goal d end e.ends; no_value = e.no_value }

pub no-value : (stack : List LayerOf) (sets : List SetOf) (asked left : List GoalSeen) (most spare : ℕ) (done : List GoalOf) (goal : GoalSeen) (d : List ℕ) (end : End) → AreDone stack sets asked (goal ∷ left) most done spare
    → IsCounterexampleOf (goal_trace stack goal) sets d end → (g : GoalSeen) × (slice_get asked (length done) ≡ Some g) × IsCounterexample stack sets g d end
no-value stack sets asked left most spare done goal d end h e = (
  goal,
  next-goal stack sets asked left most spare done goal h,
  counterexample stack sets goal d end e,
)
