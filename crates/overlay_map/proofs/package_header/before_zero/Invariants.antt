use Rattle.std.proofs.Common.{◌≡◌, ◌≤◌, ◌++◌, length, take, drop}
use Rattle.overlay_map.specs.Package.{before_zero}
use Rattle.overlay_map.proofs.package_header.before_zero.Given as goal

-- what was passed over stands before the first unit that is zero
abbrev pub invariant-loop-left : goal.invariant-loop-left
invariant-loop-left l = record {
  within : l.size ≤ length l.units;
  behind : l.left ≡ drop l.size l.units;
  before : take l.size l.units ++ before_zero l.left ≡ before_zero l.units;
}

abbrev pub decreases-loop-left : goal.decreases-loop-left
decreases-loop-left l = length l.left
