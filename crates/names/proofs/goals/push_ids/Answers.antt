use Rattle.std.proofs.Common.{List, arith, map, take, ◌++◌, ap, ◌∙◌}
use Rattle.std.proofs.lemmas.Grind.{common_steps}
use Rattle.std.proofs.lemmas.List.{length-map, map_push, take_all}
use Rattle.res_value.specs.Goal.{goal_seen, IdGoal}
use Rattle.res_value.specs.declared.res_id.ResId.{ResId}
use Rattle.names.proofs.FirstSteps.{take-full_of, take-more_of}
use Rattle.names.proofs.goals.push_ids.Goals as goal

pub returns-then-len-most : goal.returns-then-len-most
returns-then-len-most c =
    let count = length-map c.loop-id.first.items goal_seen in
    take-full_of (λ id. IdGoal id) c.args.most _ _ c.args.ids.now c.loop-id.id-index (grind (arith, common_steps, count, c.len.ensures, c.if-len-most.true)) c.loop-id.invariant

pub loop-id-preserved : goal.loop-id-preserved
loop-id-preserved c =
    let count = length-map c.loop-id.first.items goal_seen in
    take-more_of (λ id. IdGoal id) c.args.most _ _ _ c.args.ids.now c.loop-id.id-index (record { 0 = 0 }) (grind (arith, common_steps, count, c.len.ensures, c.if-len-most.false)) c.loop-id-test.true c.loop-id.invariant
    (ap (map goal_seen) c.in_ok-push.ensures.items ∙ map_push goal_seen c.loop-id.first.items _)

pub returns : goal.returns
returns c = λ few.
    c.loop-id.invariant few ∙ ap (λ (ids : List ResId). take c.args.most (map goal_seen c.args.first.now.items ++ map (λ id. IdGoal id) ids)) (take_all c.loop-id.id-index c.args.ids.now c.loop-id-test.false)
