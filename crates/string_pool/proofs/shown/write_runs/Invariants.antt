use Rattle.std.proofs.Common.{length}
use Rattle.string_pool.specs.Shown.{bytes_text}
use Rattle.string_pool.proofs.WriteSteps.{WroteAllBut}
use Rattle.string_pool.proofs.shown.write_runs.Given as goal

abbrev pub invariant-loop-byte : goal.invariant-loop-byte
invariant-loop-byte g l = WroteAllBut (g.W.Write.contents l.fn.out) (g.W.Write.contents l.out) (bytes_text l.left) (bytes_text l.fn.bytes)

abbrev pub decreases-loop-byte : goal.decreases-loop-byte
decreases-loop-byte g l = length l.left
