use Rattle.cert_tree.specs.Certificate.{goal_of}
use Rattle.cert_tree.specs.ReadsBack.{GoalReadsBack}
use Rattle.cert_tree.specs.WrittenJson.{goal_data}
use Rattle.cert_tree.proofs.WrittenSteps.{WrittenUpTo}
use Rattle.cert_tree.proofs.write.goal_values.Given as goal

abbrev pub invariant-loop-goal : goal.invariant-loop-goal
invariant-loop-goal l = WrittenUpTo (λ g. goal_data (goal_of g)) (λ g. GoalReadsBack (goal_of g)) l.values.items l.goal-index l.goals
