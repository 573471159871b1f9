use Rattle.std.proofs.Common.{◌≡◌, ◌++◌, length}
use Rattle.string_pool.specs.Units.{units_in}
use Rattle.names.proofs.text.units_in.Given as goal

-- the units so far, and those that are left, are all
abbrev pub invariant-loop-left : goal.invariant-loop-left
invariant-loop-left l = l.units.items ++ units_in l.left ≡ units_in l.bytes

abbrev pub decreases-loop-left : goal.decreases-loop-left
decreases-loop-left l = length l.left
