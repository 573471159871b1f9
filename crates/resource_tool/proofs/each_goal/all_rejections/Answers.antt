use Rattle.std.proofs.Common.{◌+◌, ◌++◌, List, map, ap, subst, sym, ◌∙◌}
use Rattle.std.proofs.lemmas.List.{drop-map}
use Rattle.resource_text.specs.declared.rejection.Rejection.{Rejection}
use Rattle.resource_text.specs.cert_maker.cert_tree.declared.cert.CertGoal.{CertGoal}
use Rattle.resource_text.specs.cert_maker.cert_tree.Certificate.{GoalOf, goal_of}
use Rattle.resource_tool.specs.EachGoal.{AreRejections}
use Rattle.resource_tool.proofs.each_goal.all_rejections.Goals as goal

pub returns : goal.returns
returns c =
    let all = c.in_ok-rejections.ensures in
    let next = c.args.goal + 1 in (
      all.0,
      all.2 ∙ ap (λ (before : List Rejection). before ++ all.0) c.in_ok-first.ensures.items,
      subst (λ (trees : List GoalOf). AreRejections c.args.stack.now c.args.members.now next trees all.0)
          (ap (λ (trees : List CertGoal). map goal_of trees) c.in_ok-behind.ensures.tail ∙ sym (drop-map goal_of next c.args.trees.items)) all.1,
    )
