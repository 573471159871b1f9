use Rattle.std.proofs.Common.{List, ◌∷◌, ◌++◌, [], sym, subst, ap, ◌∙◌}
use Rattle.std.proofs.lemmas.Result.{IfOk-weaker}
use Rattle.cert_maker.specs.box_answers.NumberSet.{SetOf}
use Rattle.cert_maker.specs.box_answers.Members.{IsMember}
use Rattle.cert_maker.specs.cert_checker.box_trace.OpenBox.{boxes_of}
use Rattle.stack_diff.specs.Sides.{trace_in}
use Rattle.stack_diff.proofs.pair_box.PairBoxes.push_part.Goals as goal

pub push_narrowed-requires : goal.push_narrowed-requires
push_narrowed-requires c = λ d m. c.requires.within d (subst (λ (sets : List SetOf). IsMember sets d) c.in_ok-shared.ensures.value m)

pub push_narrowed-requires-2 : goal.push_narrowed-requires-2
push_narrowed-requires-2 c = λ d m. subst (λ (sets : List SetOf). IsMember sets d) (sym c.requires.same) (c.requires.within d m)

pub returns : goal.returns
returns c =
    let old = c.args.self.now in
    let half = c.args.half in
    let before = c.in_ok-push_narrowed.ensures in
    let pushed = before.boxes ∙ ap (λ (sets : List SetOf). boxes_of old.before ++ sets ∷ []) c.in_ok-shared.ensures.value in
    IfOk-weaker c.push_narrowed-2.result _ _ (λ _ after. record {
      pushed = pushed;
      goes_on = λ pair is_open are. record {
        same = after.boxes ∙ ap (λ (boxes : List (List SetOf)). boxes ++ half ∷ []) are.same ∙ sym pushed;
        before_reached = before.reached pair.before.stack.now (trace_in pair.before) is_open.before_reached are.before_reached;
        after_reached = after.reached pair.after.stack.now (trace_in pair.after) is_open.after_reached are.after_reached;
      };
    })
    c.push_narrowed-2.ensures
