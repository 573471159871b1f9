-- The rejections of goals, one after the other.
use Rattle.std.proofs.Common.{◌≡◌, ℕ, ◌+◌, ◌<◌, arith, zero, suc, Bool, true, false, List, [], ◌∷◌, ◌++◌, drop, length, Option, Some, refl, ap, subst, sym, ◌∙◌, append_assoc}
use Rattle.std.specs.Prelude.{slice_get}
use Rattle.std.proofs.lemmas.List.{append-nil}
use Rattle.std.proofs.lemmas.Option.{slice_get_within}
use Rattle.command_base.specs.overlay_map.Layer.{LayerOf}
use Rattle.command_base.specs.answer_text.reference_resolver.declared.end.End.{End}
use Rattle.resource_text.specs.cert_maker.box_answers.NumberSet.{SetOf}
use Rattle.resource_text.specs.cert_maker.cert_tree.Certificate.{GoalOf}
use Rattle.resource_text.specs.cert_maker.res_value.Goal.{GoalSeen}
use Rattle.resource_text.specs.cert_maker.cert_checker.declared.rule.Rule.{Rule}
use Rattle.resource_text.specs.cert_maker.cert_checker.declared.rule.Rule.TheVariants.{GoalList}
use Rattle.resource_text.specs.cert_maker.cert_checker.declared.verdict.Shown.{Shown}
use Rattle.resource_text.specs.cert_maker.cert_checker.declared.verdict.Verdict.{Verdict}
use Rattle.resource_text.specs.cert_maker.cert_checker.declared.verdict.Verdict.TheVariants.{Accepted, Rejected}
use Rattle.resource_text.specs.cert_maker.cert_checker.Fails.{FailsFirst}
use Rattle.resource_text.specs.cert_maker.cert_checker.FirstFault.{goal_trace, NoRuleFailsIn}
use Rattle.resource_text.specs.cert_maker.cert_checker.Shown.{ShowsAt}
use Rattle.resource_text.specs.cert_maker.cert_checker.Verdict.{IsVerdict}
use Rattle.cert_checker.proofs.GoalSteps.{ArePassed, rejected}
use Rattle.resource_text.specs.declared.rejection.Rejection.{Rejection}
use Rattle.resource_text.specs.VerdictForms.{claim_in, rejection_of}
use Rattle.resource_tool.specs.EachGoal.{IsGoalVerdict, AreRejections, AreAllRejections, IsWith, at_place, goes_on, rejection_at}

-- ---- one goal

-- a goal of which no rule fails
alone-accepted : (stack : List LayerOf) (sets : List SetOf) (tree : GoalOf) → NoRuleFailsIn stack sets tree → IsGoalVerdict stack sets tree Accepted
alone-accepted stack sets tree passes = record { goals = refl; passes = at }
  where
    at : (g : ℕ) (other : GoalOf) → slice_get (tree ∷ []) g ≡ Some other → NoRuleFailsIn stack sets other
    at zero other is = let same : tree ≡ other = cc in subst (λ (t : GoalOf). NoRuleFailsIn stack sets t) same passes
    at (suc g) other is = absurd cc

-- the goal at which a certificate is rejected
record FailingGoal (stack : List LayerOf) (sets : List SetOf) (trees : List GoalOf) (g k : ℕ) (rule : Rule) (shown : Shown) : Type 0 where
  tree : GoalOf
  stands : slice_get trees g ≡ Some tree
  before : ArePassed stack sets trees g
  fails : FailsFirst (goal_trace stack tree.goal) sets tree.nodes k rule
  shows : ShowsAt (goal_trace stack tree.goal) sets tree.nodes k rule shown

failing : (stack : List LayerOf) (sets : List SetOf) (asked : List GoalSeen) (trees : List GoalOf) (g k : ℕ) (rule : Rule) (shown : Shown) (goal : ℕ)
    → IsVerdict stack sets asked trees (Rejected g k rule shown) → goes_on true (Rejected g k rule shown) ≡ Some goal → FailingGoal stack sets trees g k rule shown × (g ≡ goal)
failing stack sets asked trees g k GoalList shown goal right is = absurd cc
failing stack sets asked trees g k rule shown goal right is = (
  record {
    tree = right.0.tree;
    stands = right.0.stands;
    before = right.0.before;
    fails = right.0.fails;
    shows = right.1 right.0.tree right.0.stands;
  },
  cc,
)

-- the verdict on it
alone-rejected : (stack : List LayerOf) (sets : List SetOf) (trees : List GoalOf) (g k : ℕ) (rule : Rule) (shown : Shown) (f : FailingGoal stack sets trees g k rule shown)
    → IsGoalVerdict stack sets f.tree (Rejected 0 k rule shown)
alone-rejected stack sets trees g k rule shown f =
    rejected stack sets (f.tree.goal ∷ []) (f.tree ∷ []) 0 k f.tree rule shown refl refl (λ h other lower at. absurd (omega (arith, lower))) f.fails f.shows

-- ---- from goal to goal

-- The rejections of goals, of which the first stands at a place of a list: with those behind the first that fails.
from-failing : (stack : List LayerOf) (sets : List SetOf) (place at next : ℕ) (trees : List GoalOf) (g k : ℕ) (rule : Rule) (shown : Shown) (claimed : Option End) (tree : GoalOf)
    (others : List Rejection) → at ≡ place + g → next ≡ place + g + 1 → claimed ≡ claim_in (Some tree) k → slice_get trees g ≡ Some tree → ArePassed stack sets trees g
    → IsGoalVerdict stack sets tree (Rejected 0 k rule shown) → AreRejections stack sets next (drop (suc g) trees) others
    → AreRejections stack sets place trees (record { verdict = Rejected at k rule shown; claimed = claimed } ∷ others)
from-failing stack sets place at next [] g k rule shown claimed tree others is_at is_next says stands before fails behind = absurd cc
from-failing stack sets place at next (t ∷ ts) zero k rule shown claimed tree others is_at is_next says stands before fails behind =
    let here : t ≡ tree = cc in
    let same : next ≡ place + 1 = omega (arith, is_next) in
    let there : at ≡ place = omega (arith, is_at) in (
      Rejected 0 k rule shown,
      others,
      subst (λ (t : GoalOf). IsGoalVerdict stack sets t (Rejected 0 k rule shown)) (sym here) fails,
      subst (λ (n : ℕ). AreRejections stack sets n ts others) same behind,
      ap (λ (n : ℕ). at_place n (Rejected 0 k rule shown) claimed ++ others) there
          ∙ ap (λ (end : Option End). at_place place (Rejected 0 k rule shown) end ++ others) (says ∙ ap (λ (t : GoalOf). claim_in (Some t) k) (sym here)),
    )
from-failing stack sets place at next (t ∷ ts) (suc g) k rule shown claimed tree others is_at is_next says stands before fails behind = (
  Accepted,
  record { verdict = Rejected at k rule shown; claimed = claimed } ∷ others,
  alone-accepted stack sets t (before 0 t (omega arith) refl),
  from-failing stack sets (place + 1) at next ts g k rule shown claimed tree others (omega (arith, is_at)) (omega (arith, is_next)) says stands
      (λ h other lower is. before (suc h) other (omega (arith, lower)) is) fails behind,
  refl,
)

-- ---- a whole certificate

pub asked-all : (all : Bool) (verdict : Verdict) (goal : ℕ) → goes_on all verdict ≡ Some goal → goes_on true verdict ≡ Some goal
asked-all all Accepted goal is = absurd cc
asked-all all (Rejected g k GoalList shown) goal is = absurd cc
asked-all true (Rejected g k rule shown) goal is = is
asked-all false (Rejected g k rule shown) goal is = absurd cc

pub goal-within : (stack : List LayerOf) (sets : List SetOf) (asked : List GoalSeen) (trees : List GoalOf) (verdict : Verdict) (goal : ℕ)
    → IsVerdict stack sets asked trees verdict → goes_on true verdict ≡ Some goal → goal < length trees
goal-within stack sets asked trees Accepted goal right is = absurd cc
goal-within stack sets asked trees (Rejected g k rule shown) goal right is =
    let f = failing stack sets asked trees g k rule shown goal right is in
    let within = slice_get_within trees g f.0.tree f.0.stands in
    let same = f.1 in omega (arith, within, same)

pub all-rejections : (stack : List LayerOf) (sets : List SetOf) (asked : List GoalSeen) (trees : List GoalOf) (verdict : Verdict) (goal : ℕ) (others rejections : List Rejection)
    → IsVerdict stack sets asked trees verdict → goes_on true verdict ≡ Some goal → rejections ≡ rejection_of trees verdict ∷ others
    → AreRejections stack sets (goal + 1) (drop (goal + 1) trees) others → AreAllRejections stack sets trees verdict rejections
all-rejections stack sets asked trees Accepted goal others rejections right is first behind = absurd cc
all-rejections stack sets asked trees (Rejected g k rule shown) goal others rejections right is first behind =
    let f = failing stack sets asked trees g k rule shown goal right is in
    let next : goal + 1 ≡ suc g = (let same = f.1 in omega (arith, same)) in
    record {
      each = subst (λ (all : List Rejection). AreRejections stack sets 0 trees all) (sym first)
          (from-failing stack sets 0 g (goal + 1) trees g k rule shown (claim_in (slice_get trees g) k) f.0.tree others (omega arith) (omega (arith, next))
          (ap (λ (t : Option GoalOf). claim_in t k) f.0.stands) f.0.stands f.0.before
          (alone-rejected stack sets trees g k rule shown f.0)
          (subst (λ (n : ℕ). AreRejections stack sets (goal + 1) (drop n trees) others) next behind));
      others = others;
      first = first;
    }

-- ---- a loop over goals

-- whatever the rejections of the goals that are left, with them they stand behind those before
abbrev pub AllBut : List LayerOf → List SetOf → List Rejection → ℕ → List GoalOf → ℕ → List GoalOf → List Rejection → Type 0
AllBut stack sets before first trees place left found =
    (rest : List Rejection) → AreRejections stack sets place left rest → IsWith stack sets before first trees (found ++ rest)

pub all_but-next : (stack : List LayerOf) (sets : List SetOf) (before : List Rejection) (first : ℕ) (trees : List GoalOf) (place : ℕ) (left : List GoalOf) (found more : List Rejection) (tree : GoalOf)
    (others : List GoalOf) (verdict : Verdict) → AllBut stack sets before first trees place left found → left ≡ tree ∷ others → IsGoalVerdict stack sets tree verdict
    → more ≡ found ++ rejection_at place tree verdict → AllBut stack sets before first trees (place + 1) others more
all_but-next stack sets before first trees place left found more tree others verdict so_far split right pushed rest are =
    let here = rejection_at place tree verdict in
    let whole = so_far (here ++ rest) (subst (λ (ts : List GoalOf). AreRejections stack sets place ts (here ++ rest)) (sym split) (verdict, rest, right, are, refl)) in
    subst (λ (all : List Rejection). IsWith stack sets before first trees all)
    (sym (append_assoc found here rest) ∙ ap (λ (all : List Rejection). all ++ rest) (sym pushed)) whole

pub all_but-done : (stack : List LayerOf) (sets : List SetOf) (before : List Rejection) (first : ℕ) (trees : List GoalOf) (place : ℕ) (left : List GoalOf) (found : List Rejection)
    → AllBut stack sets before first trees place left found → left ≡ [] → IsWith stack sets before first trees found
all_but-done stack sets before first trees place left found so_far nothing =
    subst (λ (all : List Rejection). IsWith stack sets before first trees all) (append-nil found)
    (so_far [] (subst (λ (ts : List GoalOf). AreRejections stack sets place ts []) (sym nothing) refl))
