use Rattle.std.proofs.Common.{List, [], ◌∷◌, ◌∙◌, ap, subst}
use Rattle.std.proofs.lemmas.List.Elements.{All-nil, All-push, All-same}
use Rattle.std.proofs.lemmas.Result.{IfOk-weaker}
use Rattle.box_trace.specs.OpenBox.{boxes_of, IsReached}
use Rattle.cert_tree.specs.box_answers.NumberSet.{SetOf}
use Rattle.cert_tree.specs.box_answers.Members.{IsBox}
use Rattle.cert_tree.specs.res_value.Goal.{goal_seen}
use Rattle.cert_checker.specs.FirstFault.{goal_trace}
use Rattle.cert_checker.proofs.whole_box.goal_boxes.Goals as goal

pub returns : goal.returns
returns c =
    let reached = IsReached c.args.stack.now (goal_trace c.args.stack.now (goal_seen c.args.goal.now)) in
    let s = c.in_ok-shared.ensures in
    let whole = c.in_ok-whole.ensures in
    IfOk-weaker c.of.result _ _ (λ boxes is. record {
      is_box = subst IsBox s.value s.sets;
      alone = ap boxes_of is ∙ ap (λ (b : List SetOf). b ∷ []) (whole.members ∙ s.value);
      reached = All-same reached _ _ is (All-push reached [] _ (All-nil reached) whole.reached);
    })
    c.of.ensures
