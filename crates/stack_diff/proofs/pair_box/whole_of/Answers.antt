use Rattle.std.proofs.Common.{List, [], ◌∷◌, ◌∙◌, ap, subst}
use Rattle.std.proofs.lemmas.List.Elements.{All-nil, All-push, All-same}
use Rattle.std.proofs.lemmas.Result.{IfOk-weaker}
use Rattle.cert_maker.specs.box_answers.NumberSet.{SetOf}
use Rattle.cert_maker.specs.box_answers.Members.{IsBox}
use Rattle.cert_maker.specs.cert_checker.overlay_map.Layer.{LayerOf}
use Rattle.cert_maker.specs.cert_checker.bags_themes.ContentTrace.{content_trace}
use Rattle.cert_maker.specs.cert_checker.box_trace.OpenBox.{boxes_of, IsReached}
use Rattle.stack_diff.specs.Sides.{trace_in}
use Rattle.stack_diff.proofs.pair_box.whole_of.Goals as goal

pub returns : goal.returns
returns c =
    let reached = IsReached c.args.resource.stack.now (trace_in c.args.resource) in
    let members = c.in_ok-members.ensures in
    let whole = c.in_ok-whole.ensures in
    let here = subst (λ (layers : List LayerOf). IsReached layers (content_trace layers c.args.resource.id.0) c.in_ok-whole.whole) c.stack.ensures whole.reached in
    IfOk-weaker c.of.result _ _ (λ boxes is. record {
      is_box = subst IsBox members.value members.sets;
      alone = ap boxes_of is ∙ ap (λ (b : List SetOf). b ∷ []) (whole.members ∙ members.value);
      reached = All-same reached _ _ is (All-push reached [] _ (All-nil reached) here);
    })
    c.of.ensures
