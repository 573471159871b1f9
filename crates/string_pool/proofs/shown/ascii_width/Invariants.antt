use Rattle.std.proofs.Common.{◌-◌, length}
use Rattle.string_pool.specs.Escapes.{IsPlain}
use Rattle.string_pool.proofs.shown.ascii_width.Given as goal

abbrev pub invariant-loop-width : goal.invariant-loop-width
invariant-loop-width l = IsPlain l.left l.width

abbrev pub decreases-loop-width : goal.decreases-loop-width
decreases-loop-width l = length l.left - l.width
