use Rattle.std.proofs.Common.{List, [], ◌∷◌, ◌++◌, ◌∙◌, ap}
use Rattle.std.proofs.lemmas.List.Elements.{All-same, All-push}
use Rattle.std.proofs.lemmas.Result.{on_ok_weaker}
use Rattle.config_box.specs.box_answers.NumberSet.{SetOf}
use Rattle.box_trace.specs.OpenBox.{boxes_of, IsReached}
use Rattle.box_trace.proofs.OpenBoxSteps.{boxes-push}
use Rattle.box_trace.proofs.open_boxes.OpenBoxes.push_part.Goals as goal

pub returns-clause-boxes : goal.returns-clause-boxes
returns-clause-boxes c =
    on_ok_weaker c.push.result (λ items. boxes-push _ _ _ items ∙ ap (λ (sets : List SetOf). boxes_of c.args.self.now ++ sets ∷ []) c.in_ok-part.ensures.members) c.push.ensures.items

pub returns-clause-reached : goal.returns-clause-reached
returns-clause-reached c =
    on_ok_weaker c.push.result
    (λ items stack trace reached all. All-same (IsReached stack trace) _ _ items (All-push (IsReached stack trace) _ _ all (c.in_ok-part.ensures.reached stack trace reached)))
    c.push.ensures.items
