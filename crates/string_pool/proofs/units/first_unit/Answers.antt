use Rattle.string_pool.proofs.UnitSteps.{units_in-next}
use Rattle.string_pool.proofs.units.first_unit.Goals as goal

pub returns-clause-first : goal.returns-clause-first
returns-clause-first c =
    units_in-next c.args.left.now c.split_at.result.1.now c.u16_within.result c.if-left-lt-UNIT_SIZE.false c.u16_within.ensures c.split_at.ensures.back
