use Rattle.cert_tree.specs.Certificate.{goal_of}
use Rattle.cert_tree.specs.ReadsBack.{GoalReadsBack}
use Rattle.cert_tree.specs.WrittenJson.{goal_data}
use Rattle.cert_tree.proofs.WrittenSteps.{WrittenUpTo-pushed, WrittenUpTo-same_seen, WrittenUpTo-each_seen}
use Rattle.cert_tree.proofs.write.goal_values.Goals as goal

pub loop-goal-preserved : goal.loop-goal-preserved
loop-goal-preserved c =
    WrittenUpTo-pushed (λ g. goal_data (goal_of g)) (λ g. GoalReadsBack (goal_of g)) c.loop-goal.values.items c.push.new.self.items c.loop-goal.goal-index c.args.goals.now _ _ c.in_ok-value.value
    c.loop-goal.invariant c.loop-goal-test.true c.in_ok-push.ensures.items c.goal-item.is c.in_ok-value.ensures.data c.in_ok-value.ensures.reads_back

pub returns-clause-data : goal.returns-clause-data
returns-clause-data c = WrittenUpTo-same_seen goal_data goal_of GoalReadsBack c.loop-goal.values.items c.loop-goal.goal-index c.args.goals.now c.loop-goal.invariant c.loop-goal-test.false

pub returns-clause-reads_back : goal.returns-clause-reads_back
returns-clause-reads_back c = WrittenUpTo-each_seen goal_data goal_of GoalReadsBack c.loop-goal.values.items c.loop-goal.goal-index c.args.goals.now c.loop-goal.invariant c.loop-goal-test.false
