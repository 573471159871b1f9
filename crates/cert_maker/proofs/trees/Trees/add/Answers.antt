use Rattle.std.proofs.Common.{◌≡◌, ℕ, ◌+◌, ◌-◌, arith, List, length, map, Some, sym, subst}
use Rattle.std.specs.Prelude.{slice_get}
use Rattle.std.proofs.lemmas.List.{length-map}
use Rattle.cert_checker.specs.config_record.DeviceSeen.{device_numbers}
use Rattle.cert_checker.specs.cert_tree.Certificate.{GoalOf, goal_of, node_of}
use Rattle.cert_checker.specs.res_value.Goal.{GoalSeen, goal_seen}
use Rattle.cert_maker.specs.Growth.{IsGrown}
use Rattle.cert_maker.specs.Made.{IsCounterexample}
use Rattle.cert_maker.specs.Trees.{AreDone}
use Rattle.cert_maker.proofs.GoalSteps.{pushed, one-more, too-large, no-value}
use Rattle.cert_maker.proofs.trees.Trees.add.Goals as goal

pub returns-in_ok-push-in-Tree : goal.returns-in_ok-push-in-Tree
returns-in_ok-push-in-Tree c = λ asked left most h.
    let grown = subst (IsGrown _ _ _) c.in-Tree.is c.in_ok-nodes.ensures in
    let spare = c.args.self.now.spare in
    let before = c.args.self.now.grown.items in
    let tree : GoalOf = record { goal = goal_seen c.args.goal.now; nodes = map node_of c.in-Tree.nodes.items } in
    let count : length tree.nodes ≡ c.len.result = (let same = length-map c.in-Tree.nodes.items node_of in let len = c.len.ensures in let is = c.in-Tree.nodes.ok.0 in omega (arith, same, len, is)) in
    let more = one-more c.args.stack.now c.args.members.now asked left most spare (map goal_of before) tree h (record { passes = grown.0; needed = grown.1; fits = grown.3 }) (omega (arith, count, c.len.ensures, grown.2)) in
    let trees = pushed before c.push.new.self.items _ (goal_seen c.args.goal.now) c.in_ok-push-in-Tree.ensures.items c.in_ok-goal-in-Tree.ensures in
    subst (λ (n : ℕ). AreDone c.args.stack.now c.args.members.now asked left most (map goal_of c.push.new.self.items) (spare + 1 - n)) count
    (subst (λ (ts : List GoalOf). AreDone c.args.stack.now c.args.members.now asked left most ts (spare + 1 - length tree.nodes)) (sym trees) more)

pub returns-in-Counterexample : goal.returns-in-Counterexample
returns-in-Counterexample c = λ asked left most h.
    let grown = subst (IsGrown _ _ _) c.in-Counterexample.is c.in_ok-nodes.ensures in
    let before = c.args.self.now.grown.items in
    let place : length (map goal_of before) ≡ c.len-goal.result = (let same = length-map before goal_of in let len = c.len-goal.ensures in let is = c.args.self.now.grown.ok.0 in omega (arith, same, len, is)) in
    let counter = no-value c.args.stack.now c.args.members.now asked left most c.args.self.now.spare (map goal_of before) (goal_seen c.args.goal.now) (device_numbers c.in-Counterexample.device) c.in-Counterexample.ending h grown in
    (subst (λ (g : ℕ). (goal : GoalSeen) × (slice_get asked g ≡ Some goal) × IsCounterexample c.args.stack.now c.args.members.now goal (device_numbers c.in-Counterexample.device) c.in-Counterexample.ending) place counter, tt)

pub returns-in-TooLarge : goal.returns-in-TooLarge
returns-in-TooLarge c = λ asked left most h.
    let grown = subst (IsGrown _ _ _) c.in-TooLarge.is c.in_ok-nodes.ensures in
    let tree : GoalOf = record { goal = goal_seen c.args.goal.now; nodes = grown.0 } in
    (too-large c.args.stack.now c.args.members.now asked left most c.args.self.now.spare (map goal_of c.args.self.now.grown.items) tree h grown.1 grown.2, tt)
