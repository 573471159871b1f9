use Rattle.std.proofs.Common.{arith, refl}
use Rattle.std.proofs.lemmas.Result.{err_from_is_err_and}
use Rattle.command_base.proofs.StopSteps.{IfSome-all}
use Rattle.command_base.proofs.NamedLeft.{NamedLeft-none, NamedLeft-next, NamedLeft-stops, NamedLeft-end}
use Rattle.command_base.proofs.layer_files.read_each_named.Goals as goal

pub loop-layer-init : goal.loop-layer-init
loop-layer-init g c = rw c.new-files.ensures.items (NamedLeft-none (g.I.Inputs.places c.args.inputs.now) c.args.layers.now)

pub loop-layer-preserved : goal.loop-layer-preserved
loop-layer-preserved g c =
    rw c.in_ok-push.ensures.items
    (NamedLeft-next (g.I.Inputs.places c.args.inputs.now) c.loop-layer.files.items c.loop-layer.layer-index c.args.layers.now _ c.in_ok-read.read
    c.loop-layer.invariant c.loop-layer-test.true (rw c.deref.ensures.value at c.in_ok-read.ensures))

pub returns-in_err-read : goal.returns-in_err-read
returns-in_err-read g c =
    let p = err_from_is_err_and c.from_residual.result c.from_residual.ensures.1 in
    rw (p.1, p.2) (NamedLeft-stops (g.I.Inputs.places c.args.inputs.now) c.loop-layer.files.items c.loop-layer.layer-index c.args.layers.now _ c.in_err-read.field-0.0
    c.loop-layer.invariant c.loop-layer-test.true (rw c.deref.ensures.value at c.in_err-read.ensures))

pub returns : goal.returns
returns g c =
    NamedLeft-end (g.I.Inputs.places c.args.inputs.now) c.loop-layer.files.items c.loop-layer.layer-index c.args.layers.now c.loop-layer.invariant (omega arith)

pub returns-in_err-push : goal.returns-in_err-push
returns-in_err-push g c =
    let p = err_from_is_err_and c.from_residual-in_err-push.result c.from_residual-in_err-push.ensures.1 in
    rw (p.1, p.2) (IfSome-all (g.I.Inputs.places c.args.inputs.now) (λ places other. absurd (other refl)))
