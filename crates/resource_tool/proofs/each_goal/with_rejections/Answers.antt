use Rattle.std.proofs.Common.{◌≡◌, List, [], ◌∷◌, map, length, arith, ap, refl}
use Rattle.std.specs.Vec.Iter.{into_iter_items}
use Rattle.resource_text.specs.cert_maker.cert_tree.declared.cert.CertGoal.{CertGoal}
use Rattle.resource_text.specs.cert_maker.cert_tree.Certificate.{goal_of}
use Rattle.resource_tool.proofs.EachGoalSteps.{all_but-next, all_but-done}
use Rattle.resource_tool.proofs.each_goal.with_rejections.Goals as goal

pub overflow_add-place : goal.overflow_add-place
overflow_add-place c = let more = ap length c.in-Some.ensures.steps.0 in let total = c.loop-tree.invariant.1 in omega (arith, more, total)

pub loop-tree-preserved : goal.loop-tree-preserved
loop-tree-preserved c = (
  all_but-next _ _ _ _ _ _ _ _ _ _ _ _ c.loop-tree.invariant.0 (ap (λ (trees : List CertGoal). map goal_of trees) c.in-Some.ensures.steps.0) c.in_ok-rejection.ensures.0
      (rw c.in_ok-rejection.ensures.1 at c.in_ok-push_rejection.ensures),
  (let more = ap length c.in-Some.ensures.steps.0 in let total = c.loop-tree.invariant.1 in omega (arith, more, total)),
)

none : (trees : List CertGoal) → length trees ≡ 0 → map goal_of trees ≡ []
none [] e = refl
none (tree ∷ trees) e = absurd (omega (arith, e))

pub returns : goal.returns
returns c =
    let count = c.loop-tree.tree-iterator.rest.ok.0 in
    let nothing = c.in-None.ensures.steps.0 in
    all_but-done _ _ _ _ _ _ _ _ c.loop-tree.invariant.0 (none (into_iter_items c.loop-tree.tree-iterator) (omega (arith, count, nothing)))
