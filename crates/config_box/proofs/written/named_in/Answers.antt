use Rattle.std.proofs.Common.{bytes_eq, sym, ap, ◌∙◌}
use Rattle.config_box.proofs.SlotSteps.{among-later, among-end}
use Rattle.config_box.proofs.written.named_in.Goals as goal

pub loop-coord-preserved : goal.loop-coord-preserved
loop-coord-preserved c =
    among-later c.args.coords.now c.loop-coord.coord-index _ c.args.name.now c.loop-coord-test.true (ap (λ name. bytes_eq name c.args.name.now) (sym c.name.ensures) ∙ sym c.if-eq.ensures) c.loop-coord.invariant

pub returns : goal.returns
returns c = among-end c.args.coords.now c.loop-coord.coord-index c.args.name.now c.loop-coord-test.false c.loop-coord.invariant
