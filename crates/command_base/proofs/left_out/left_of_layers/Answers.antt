use Rattle.std.proofs.Common.{map, arith}
use Rattle.std.proofs.lemmas.List.{length-map}
use Rattle.std.proofs.lemmas.Result.{err_from_is_err_and}
use Rattle.command_base.specs.LeftOut.{left_at}
use Rattle.command_base.specs.ListWordSeen.{listed_of}
use Rattle.command_base.specs.StackBytesSeen.{layer_bytes}
use Rattle.command_base.proofs.LeftSteps.{ReadsFrom-next, ReadsFrom-stops, ReadsFrom-end}
use Rattle.command_base.proofs.left_out.left_of_layers.Goals as goal

pub loop-place-preserved : goal.loop-place-preserved
loop-place-preserved c =
    let counted = length-map c.args.listed.now listed_of in
    ReadsFrom-next (left_at c.args.side (map listed_of c.args.listed.now) (map layer_bytes c.args.layers.now)) c.loop-place.lines.items c.push_left.new.lines.items _ _
    c.loop-place.invariant (omega (arith, counted, c.loop-place-test.true)) c.in_ok-push_left.ensures

pub returns-in_err-push_left : goal.returns-in_err-push_left
returns-in_err-push_left c =
    let p = err_from_is_err_and c.from_residual.result c.from_residual.ensures.1 in
    let counted = length-map c.args.listed.now listed_of in
    rw (p.1, p.2) (λ other. ReadsFrom-stops (left_at c.args.side (map listed_of c.args.listed.now) (map layer_bytes c.args.layers.now)) c.loop-place.lines.items _ _ _
    c.loop-place.invariant (omega (arith, counted, c.loop-place-test.true)) (c.in_err-push_left.ensures other))

pub returns : goal.returns
returns c =
    let counted = length-map c.args.listed.now listed_of in
    ReadsFrom-end (left_at c.args.side (map listed_of c.args.listed.now) (map layer_bytes c.args.layers.now)) c.loop-place.lines.items _ _
    c.loop-place.invariant (omega (arith, counted, c.loop-place-test.false))
