use Rattle.cert_tree.specs.Certificate.{goals_of}
use Rattle.cert_checker.proofs.GoalSteps.{ArePassed}
use Rattle.cert_checker.proofs.checking.check.Given as goal

abbrev pub invariant-loop-goal : goal.invariant-loop-goal
invariant-loop-goal l = ArePassed l.stack l.members (goals_of l.certificate) l.goal
