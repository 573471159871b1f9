use Rattle.std.proofs.Common.{List, sym, ◌∙◌, ap, subst}
use Rattle.cert_maker.specs.cert_checker.overlay_map.Layer.{LayerOf}
use Rattle.cert_maker.specs.cert_checker.reference_resolver.Trace.{Trace}
use Rattle.cert_maker.specs.cert_checker.box_trace.declared.common.CommonTrace.{CommonTrace}
use Rattle.cert_maker.specs.cert_checker.box_trace.CommonTrace.{IsCommonTrace}
use Rattle.cert_maker.specs.cert_checker.box_trace.OpenBox.{IsReached}
use Rattle.cert_maker.proofs.cert_checker.box_trace.OpenBoxSteps.{told_in_place}
use Rattle.stack_diff.specs.Sides.{trace_in}
use Rattle.stack_diff.proofs.pair_box.trace_in.Goals as goal

pub returns-in-One : goal.returns-in-One
returns-in-One c =
    let trace = trace_in c.args.resource in
    let end = c.in_ok-end.ensures in
    let reached = subst (λ (layers : List LayerOf). IsReached layers trace c.args.part.now) (sym c.stack.ensures) c.requires in
    let common = subst (λ (k : CommonTrace). IsCommonTrace k c.args.part.now.members trace) c.in-One.is (end.common trace reached) in
    record {
      members = end.members;
      reached = subst (λ (layers : List LayerOf). IsReached layers trace c.common_trace.new.self) c.stack.ensures (end.reached trace reached);
      trace = (λ d e md me. common.1 d md ∙ sym (common.1 e me), λ d m. ap (λ (t : Trace). t.end) (common.1 d m));
    }

pub returns-in_ok-parting-in-Mixed : goal.returns-in_ok-parting-in-Mixed
returns-in_ok-parting-in-Mixed c =
    let trace = trace_in c.args.resource in
    let end = c.in_ok-end.ensures in
    let parting = c.in_ok-parting-in-Mixed.ensures in
    let reached = subst (λ (layers : List LayerOf). IsReached layers trace c.args.part.now) (sym c.stack.ensures) c.requires in
    let further = end.reached trace reached in
    record {
      members = parting.members ∙ end.members;
      reached = subst (λ (layers : List LayerOf). IsReached layers trace c.weightiest_parting.new.self) c.stack.ensures (parting.reached c.stack.result.now trace further);
      trace = told_in_place trace _ c.in-Mixed.first _ c.args.part.now.members _ c.args.part.now.members c.in-Mixed.is end.members (sym end.members) (end.common trace reached) (parting.told c.stack.result.now trace further);
    }
