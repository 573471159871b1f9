use Rattle.std.proofs.Common.{map, ap, refl}
use Rattle.std.proofs.lemmas.List.{drop_more, drop_all}
use Rattle.reference_resolver.specs.res_value.declared.res_id.ResId.{ResId}
use Rattle.stack_diff.specs.Raising.{cells_of}
use Rattle.stack_diff.proofs.ReachSteps.{keeps-then, keeps-told}
use Rattle.stack_diff.proofs.RaisedRows.{some-of, no-id, next-id}
use Rattle.stack_diff.proofs.LimitSteps.{counting-begins, counting-next, counting-ends, counting-breaks}
use Rattle.stack_diff.proofs.all_uses.raise_ids.Goals as goal

pub loop-id-init : goal.loop-id-init
loop-id-init c = record {
  keeps = keeps-told _ _ _ (λ row level. ((λ more. more), (λ more. more)));
  counting = counting-begins c.args.stack.now c.args.members.now (cells_of c.args.uses.now) _ _ c.args.left refl;
}

pub loop-id-preserved : goal.loop-id-preserved
loop-id-preserved c =
    let stack = c.args.stack.now in
    let sets = c.args.members.now in
    let split = ap (map (λ (id : ResId). id.0)) (drop_more c.args.ids.now c.loop-id.id-index _ c.loop-id-test.true) in
    record {
      keeps = next-id stack sets (cells_of c.args.uses.now) (cells_of c.loop-id.uses) (cells_of c.raise_id.new.uses) _ _ _ _ split c.loop-id.invariant.keeps (some-of c.in_ok-raised.raised c.in-Some.rest _ c.in-Some.is c.in_ok-raised.ensures.keeps);
      counting = counting-next stack sets (cells_of c.args.uses.now) (cells_of c.loop-id.uses) _ _ c.loop-id.invariant.keeps _ _ _ _ c.args.left c.loop-id.left c.in-Some.rest c.in_ok-raised.raised split c.loop-id.invariant.counting
          c.in-Some.is c.in_ok-raised.ensures.tree;
    }

pub returns-in_default-clause-tree : goal.returns-in_default-clause-tree
returns-in_default-clause-tree c =
    let stack = c.args.stack.now in
    let sets = c.args.members.now in
    let split = ap (map (λ (id : ResId). id.0)) (drop_more c.args.ids.now c.loop-id.id-index _ c.loop-id-test.true) in
    counting-breaks stack sets (cells_of c.args.uses.now) (cells_of c.loop-id.uses) _ _ c.loop-id.invariant.keeps _ _ _ _ c.args.left c.loop-id.left c.in_ok-raised.raised split c.loop-id.invariant.counting c.in_default.is c.in_ok-raised.ensures.tree

pub returns-clause-keeps : goal.returns-clause-keeps
returns-clause-keeps c =
    keeps-then _ _ _ _ _ _ c.loop-id.invariant.keeps
    (no-id c.args.stack.now c.args.members.now (cells_of c.loop-id.uses) _ (ap (map (λ (id : ResId). id.0)) (drop_all c.loop-id.id-index c.args.ids.now c.loop-id-test.false)))

pub returns-clause-tree : goal.returns-clause-tree
returns-clause-tree c =
    counting-ends c.args.stack.now c.args.members.now (cells_of c.args.uses.now) _ _ c.args.left c.loop-id.left (ap (map (λ (id : ResId). id.0)) (drop_all c.loop-id.id-index c.args.ids.now c.loop-id-test.false)) c.loop-id.invariant.counting
