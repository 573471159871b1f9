use Rattle.std.proofs.Common.{sym, ◌∙◌}
use Rattle.std.proofs.lemmas.Result.{err_from_is_err_and}
use Rattle.command_base.proofs.LayersLeft.{LayersLeft-none, LayersLeft-next, LayersLeft-stops, LayersLeft-end, none_left}
use Rattle.command_base.proofs.layer_files.read_each_layer.Goals as goal

pub loop-layer-init : goal.loop-layer-init
loop-layer-init g c =
    (tt, tt, rw (c.new-files.ensures.items, c.into_iter-layer-iterator.ensures.into_iter_gives.0) (LayersLeft-none (g.I.Inputs.places c.args.inputs.now) c.args.paths.items))

pub returns-in_err-read : goal.returns-in_err-read
returns-in_err-read g c =
    let steps = rw c.in-Some.is at c.next.ensures.steps in
    let before = rw steps.0 at c.loop-layer.invariant.2 in
    let p = err_from_is_err_and c.from_residual.result c.from_residual.ensures.1 in
    rw (p.1, p.2) (LayersLeft-stops (g.I.Inputs.places c.args.inputs.now) c.loop-layer.files.items c.len.result c.in-Some.layer c.next.new.self.rest.items c.args.paths.items c.in_err-read.field-0.0 before (c.len.ensures ∙ c.loop-layer.files.ok.0) c.in_err-read.ensures)

pub loop-layer-preserved : goal.loop-layer-preserved
loop-layer-preserved g c =
    let steps = rw c.in-Some.is at c.next.ensures.steps in
    let before = rw steps.0 at c.loop-layer.invariant.2 in (
      tt,
      tt,
      rw c.in_ok-push.ensures.items
          (LayersLeft-next (g.I.Inputs.places c.args.inputs.now) c.loop-layer.files.items c.len.result c.in-Some.layer c.next.new.self.rest.items c.args.paths.items c.in_ok-read.read before (c.len.ensures ∙ c.loop-layer.files.ok.0) c.in_ok-read.ensures),
    )

pub returns : goal.returns
returns g c =
    let steps = rw c.in-None.is at c.next.ensures.steps in
    let none = none_left c.loop-layer.layer-iterator.rest.items (sym c.loop-layer.layer-iterator.rest.ok.0 ∙ steps.0) in
    LayersLeft-end (g.I.Inputs.places c.args.inputs.now) c.loop-layer.files.items c.args.paths.items (rw none at c.loop-layer.invariant.2)
