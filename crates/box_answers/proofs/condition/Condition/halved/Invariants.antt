use Rattle.std.proofs.Common.{◌+◌, ◌-◌}
use Rattle.box_answers.specs.NumberSet.{set_of}
use Rattle.box_answers.specs.Condition.{passes_at, PartsNumbers}
use Rattle.box_answers.proofs.condition.Condition.halved.Given as goal

abbrev pub invariant-loop-middle : goal.invariant-loop-middle
invariant-loop-middle l = PartsNumbers (set_of l.self.set.now) (passes_at l.self) l.yes l.no

abbrev pub decreases-loop-middle : goal.decreases-loop-middle
decreases-loop-middle l = (l.yes - l.no) + (l.no - l.yes)
