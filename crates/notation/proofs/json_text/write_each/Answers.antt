use Rattle.std.proofs.lemmas.List.{drop_all}
use Rattle.config_record.specs.declared.coord.Coord.TheVariants as coords
use Rattle.config_record.proofs.SeparatorSteps.{ContinuesAllBut-none, ContinuesAllBut-next, ContinuesAllBut-end}
use Rattle.notation.proofs.json_text.write_each.Goals as goal

pub loop-coord-init : goal.loop-coord-init
loop-coord-init g c = ContinuesAllBut-none _ _ _ _

pub loop-coord-preserved : goal.loop-coord-preserved
loop-coord-preserved g c = ContinuesAllBut-next _ _ _ _ _ _ _ _ c.loop-coord.coord-index coords.Mcc c.loop-coord.invariant c.loop-coord-test.true c.in_ok-write_member.ensures

pub returns : goal.returns
returns g c = ContinuesAllBut-end _ _ _ _ _ _ _ c.loop-coord.invariant (drop_all c.loop-coord.coord-index c.args.coords.now c.loop-coord-test.false)
