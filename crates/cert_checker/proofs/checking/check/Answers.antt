use Rattle.std.proofs.Common.{◌≡◌, ℕ, ◌<◌, List, length, map, get_or, Option, Some, Ok, ap, subst, arith}
use Rattle.std.specs.Prelude.{slice_get}
use Rattle.std.proofs.lemmas.List.{length-map}
use Rattle.cert_tree.specs.declared.cert.CertGoal.{CertGoal}
use Rattle.cert_tree.specs.Certificate.{goal_of, goals_of}
use Rattle.cert_tree.specs.res_value.Goal.{goal_seen}
use Rattle.cert_checker.specs.declared.failure.Failure.{Failure}
use Rattle.cert_checker.specs.declared.verdict.Verdict.TheVariants.{Accepted}
use Rattle.cert_checker.specs.FirstFault.{goal_trace, goals_in, IsAccepted}
use Rattle.cert_checker.specs.OpenBoxes.{IsOutcome}
use Rattle.cert_checker.proofs.TreeSteps.{seen_at}
use Rattle.cert_checker.proofs.GoalSteps.{passed_tree, all_passed, rejected}
use Rattle.cert_checker.proofs.HeadlineSteps.{headline}
use Rattle.cert_checker.proofs.checking.check.Goals as goal

-- the tree of the loop's turn
tree_at : (items found : List CertGoal) (g : ℕ) (tree : CertGoal) → found ≡ items → g < length found → tree ≡ get_or found g tree → slice_get (map goal_of items) g ≡ Some (goal_of tree)
tree_at items found g tree e within is = subst (λ (xs : List CertGoal). slice_get (map goal_of xs) g ≡ Some (goal_of tree)) e (seen_at goal_of found g tree within is)

pub returns-in-Some-2-clause-verdict : goal.returns-in-Some-2-clause-verdict
returns-in-Some-2-clause-verdict c =
    let items = c.args.certificate.now.goals.items in
    let tree = goal_of c.tree-item.result in
    let l = c.loop-goal in
    let at = tree_at items c.deref-tree-items.result.now l.goal c.tree-item.result c.deref-tree-items.ensures.value c.loop-goal-test.true c.tree-item.is in
    let same : goals_in (goals_of c.args.certificate.now) ≡ (map goal_seen c.args.asked.now) = subst (λ (xs : List CertGoal). goals_in (map goal_of xs) ≡ (map goal_seen c.args.asked.now)) c.as_slice.ensures.value c.in_default.ensures in
    let found = subst (λ (o : Option (ℕ × Failure)). IsOutcome (goal_trace c.args.stack.now tree.goal) c.args.members.now tree.nodes o) c.in-Some-2.is c.in_ok-node.ensures in
    rejected c.args.stack.now c.args.members.now (map goal_seen c.args.asked.now) (goals_of c.args.certificate.now) l.goal c.in-Some-2.node tree c.in-Some-2.failure.rule c.in-Some-2.failure.shown same at l.invariant found.0 found.1

pub returns-in-Some-2-clause-headline : goal.returns-in-Some-2-clause-headline
returns-in-Some-2-clause-headline c = (returns-in-Some-2-clause-verdict c).0

pub loop-goal-preserved : goal.loop-goal-preserved
loop-goal-preserved c =
    let tree = goal_of c.tree-item.result in
    let l = c.loop-goal in
    let at = tree_at c.args.certificate.now.goals.items c.deref-tree-items.result.now l.goal c.tree-item.result c.deref-tree-items.ensures.value c.loop-goal-test.true c.tree-item.is in
    passed_tree c.args.stack.now c.args.members.now (goals_of c.args.certificate.now) l.goal tree at l.invariant
    (subst (λ (o : Option (ℕ × Failure)). IsOutcome (goal_trace c.args.stack.now tree.goal) c.args.members.now tree.nodes o) c.in_default-2.is c.in_ok-node.ensures)

accepted : (c : goal.After-loop-goal) → IsAccepted c.args.stack.now c.args.members.now (map goal_seen c.args.asked.now) (goals_of c.args.certificate.now)
accepted c =
    let items = c.args.certificate.now.goals.items in
    let same : goals_in (goals_of c.args.certificate.now) ≡ (map goal_seen c.args.asked.now) = subst (λ (xs : List CertGoal). goals_in (map goal_of xs) ≡ (map goal_seen c.args.asked.now)) c.as_slice.ensures.value c.in_default.ensures in
    let count : length c.deref-tree-items.result.now ≡ length items = ap (λ (xs : List CertGoal). length xs) c.deref-tree-items.ensures.value in
    all_passed c.args.stack.now c.args.members.now (map goal_seen c.args.asked.now) (goals_of c.args.certificate.now) c.loop-goal.goal same (omega (arith, count, length-map items goal_of)) c.loop-goal.invariant

pub returns-clause-verdict : goal.returns-clause-verdict
returns-clause-verdict c = accepted c

pub returns-clause-headline : goal.returns-clause-headline
returns-clause-headline c = headline c.args.stack.now c.args.members.now (map goal_seen c.args.asked.now) (goals_of c.args.certificate.now) (Ok Accepted) (accepted c)
