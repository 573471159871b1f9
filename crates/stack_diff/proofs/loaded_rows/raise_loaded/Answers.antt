use Rattle.std.proofs.Common.{List, ◌∷◌, [], ◌∙◌, ap, subst}
use Rattle.std.proofs.lemmas.Result.{IfOk-weaker}
use Rattle.std.specs.Prelude.{IfSome}
use Rattle.config_box.specs.box_answers.NumberSet.{SetOf}
use Rattle.config_box.specs.box_answers.Members.{IsBox}
use Rattle.stack_diff.specs.LayersSeen.{loads_of}
use Rattle.stack_diff.specs.Raising.{level_of, cells_of, KeepsReach, no_more, loaded_more}
use Rattle.cert_maker.specs.cert_checker.box_trace.OpenBox.{boxes_of}
use Rattle.stack_diff.proofs.loaded_rows.raise_loaded.Goals as goal

pub returns-clause-tree : goal.returns-clause-tree
returns-clause-tree c =
    let members = c.in_ok-members.ensures in
    let alone = ap boxes_of c.in_ok-open_boxes.ensures ∙ ap (λ (sets : List SetOf). sets ∷ []) (c.in_ok-whole.ensures.members ∙ members.value) in
    IfOk-weaker c.raise_in_boxes-raised.result _ _ (λ found tree. tree c.args.members.now (subst IsBox members.value members.sets) alone) c.raise_in_boxes-raised.ensures.tree

pub returns-clause-keeps : goal.returns-clause-keeps
returns-clause-keeps c =
    let alone = ap boxes_of c.in_ok-open_boxes.ensures ∙ ap (λ (sets : List SetOf). sets ∷ []) (c.in_ok-whole.ensures.members ∙ c.in_ok-members.ensures.value) in
    let loads = loads_of c.args.look_up.now in
    let raised = c.raise_in_boxes-raised in
    IfOk-weaker raised.result _ _ (λ found keeps.
    subst (λ (boxes : List (List SetOf)). IfSome found (λ _. KeepsReach (cells_of c.args.uses.now) (loaded_more loads (level_of c.args.to) boxes) (cells_of raised.new.uses) no_more)) alone keeps)
    raised.ensures.keeps
