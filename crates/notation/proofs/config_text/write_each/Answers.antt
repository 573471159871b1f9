use Rattle.std.proofs.lemmas.List.{drop_all}
use Rattle.config_record.specs.Record.{record_bytes}
use Rattle.config_record.proofs.SeparatorSteps.{ContinuesAllBut-none, ContinuesAllBut-next, ContinuesAllBut-end}
use Rattle.notation.specs.ConfigText.{parts_at}
use Rattle.notation.proofs.config_text.write_each.Goals as goal

pub loop-coord-init : goal.loop-coord-init
loop-coord-init g c = ContinuesAllBut-none (parts_at (record_bytes c.args.config.now)) _ _ _

pub loop-coord-preserved : goal.loop-coord-preserved
loop-coord-preserved g c =
    ContinuesAllBut-next (parts_at (record_bytes c.args.config.now)) _ _ _ _ _ _ c.args.coords.now c.loop-coord.coord-index _ c.loop-coord.invariant c.loop-coord-test.true c.in_ok-write_part.ensures

pub returns : goal.returns
returns g c = ContinuesAllBut-end _ _ _ _ _ _ _ c.loop-coord.invariant (drop_all c.loop-coord.coord-index c.args.coords.now c.loop-coord-test.false)
