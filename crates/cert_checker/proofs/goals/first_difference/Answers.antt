use Rattle.std.proofs.Common.{length, map, sym, ◌∙◌, arith}
use Rattle.std.proofs.lemmas.Bool.{MatchBool-at_true, MatchBool-at_false}
use Rattle.std.proofs.lemmas.List.{length-map}
use Rattle.cert_tree.specs.Certificate.{goal_of}
use Rattle.cert_tree.specs.res_value.Goal.{goal_seen}
use Rattle.cert_checker.specs.FirstFault.{goals_in}
use Rattle.cert_checker.proofs.GoalSteps.{goal_at, goals-count, same_more, shorter, same_so_far}
use Rattle.cert_checker.proofs.goals.first_difference.Goals as goal

pub returns-then-not-stands_at : goal.returns-then-not-stands_at
returns-then-not-stands_at c =
    let l = c.loop-place in
    let at = goal_at c.args.trees.now l.place c.index-trees-place.result c.loop-place-test.true c.index-trees-place.is in
    record {
      before = l.invariant;
      differ = λ e. MatchBool-at_false _ _ c.if-not-stands_at.true c.stands_at.ensures (sym e ∙ at);
    }

pub loop-place-preserved : goal.loop-place-preserved
loop-place-preserved c =
    let l = c.loop-place in
    let at = goal_at c.args.trees.now l.place c.index-trees-place.result c.loop-place-test.true c.index-trees-place.is in
    same_more (goals_in (map goal_of c.args.trees.now)) (map goal_seen c.args.asked.now) l.place l.invariant (at ∙ sym (MatchBool-at_true _ _ c.if-not-stands_at.false c.stands_at.ensures))

pub returns-then-trees-asked : goal.returns-then-trees-asked
returns-then-trees-asked c =
    let count = goals-count c.args.trees.now in
    record {
      before = λ k p. c.loop-place.invariant k (omega (arith, length-map c.args.asked.now goal_seen));
      differ = shorter (goals_in (map goal_of c.args.trees.now)) (map goal_seen c.args.asked.now) (length c.args.trees.now) (omega (arith, length-map c.args.asked.now goal_seen)) (omega (arith, length-map c.args.asked.now goal_seen));
    }

pub returns-else-trees-asked : goal.returns-else-trees-asked
returns-else-trees-asked c =
    let count = goals-count c.args.trees.now in
    same_so_far (goals_in (map goal_of c.args.trees.now)) (map goal_seen c.args.asked.now) c.loop-place.place (omega (arith, length-map c.args.asked.now goal_seen)) (omega (arith, length-map c.args.asked.now goal_seen)) c.loop-place.invariant
