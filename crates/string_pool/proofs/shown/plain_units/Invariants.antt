use Rattle.std.proofs.Common.{◌≡◌, ◌++◌, ◌≤◌, length}
use Rattle.string_pool.specs.Shown.{units_text}
use Rattle.string_pool.specs.Units.{units_in}
use Rattle.string_pool.proofs.shown.plain_units.Given as goal

abbrev pub invariant-loop-character : goal.invariant-loop-character
invariant-loop-character l = record {
  text : units_text (units_in l.left) ≡ l.run.items ++ units_text (units_in l.behind);
  shorter : length l.behind ≤ length l.left;
}

abbrev pub decreases-loop-character : goal.decreases-loop-character
decreases-loop-character l = length l.behind
