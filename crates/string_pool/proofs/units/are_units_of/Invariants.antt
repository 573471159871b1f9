use Rattle.string_pool.proofs.UnitSteps.{Compares}
use Rattle.string_pool.proofs.units.are_units_of.Given as goal

abbrev pub invariant-loop-unit : goal.invariant-loop-unit
invariant-loop-unit l = Compares l.bytes l.text l.left l.unit-iterator
