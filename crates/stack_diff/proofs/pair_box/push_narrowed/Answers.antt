use Rattle.std.proofs.Common.{List, ◌∷◌, ◌++◌, [], ap, ◌∙◌}
use Rattle.std.proofs.lemmas.List.Elements.{All-push, All-same}
use Rattle.std.proofs.lemmas.Result.{on_ok_weaker}
use Rattle.cert_maker.specs.box_answers.NumberSet.{SetOf}
use Rattle.cert_maker.specs.cert_checker.box_trace.OpenBox.{boxes_of, IsReached}
use Rattle.cert_maker.proofs.cert_checker.box_trace.OpenBoxSteps.{boxes-push}
use Rattle.stack_diff.proofs.pair_box.push_narrowed.Goals as goal

pub returns : goal.returns
returns c =
    let old = c.args.open_boxes.now in
    let part = c.in_ok-part.ensures in
    on_ok_weaker c.push.result (λ items. record {
      boxes = boxes-push _ _ _ items ∙ ap (λ (sets : List SetOf). boxes_of old ++ sets ∷ []) part.members;
      reached = λ stack trace reached all. All-same (IsReached stack trace) _ _ items (All-push (IsReached stack trace) old _ all (part.reached stack trace reached));
    })
    c.push.ensures.items
