use Rattle.std.proofs.Common.{length}
use Rattle.string_pool.specs.Shown.{units_text}
use Rattle.string_pool.specs.Units.{units_in}
use Rattle.string_pool.proofs.WriteSteps.{WroteAllBut}
use Rattle.string_pool.proofs.shown.write_units.Given as goal

abbrev pub invariant-loop-piece : goal.invariant-loop-piece
invariant-loop-piece g l = WroteAllBut (g.W.Write.contents l.fn.out) (g.W.Write.contents l.out) (units_text (units_in l.left)) (units_text (units_in l.fn.bytes))

abbrev pub decreases-loop-piece : goal.decreases-loop-piece
decreases-loop-piece g l = length l.left
