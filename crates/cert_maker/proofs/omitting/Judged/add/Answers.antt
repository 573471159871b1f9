use Rattle.std.proofs.Common.{◌≡◌, ℕ, ◌+◌, ◌-◌, arith, List, length, map, refl, sym, subst}
use Rattle.std.proofs.lemmas.List.{length-map}
use Rattle.cert_checker.specs.cert_tree.Certificate.{GoalOf, goal_of, node_of}
use Rattle.cert_checker.specs.res_value.Goal.{goal_seen}
use Rattle.cert_maker.specs.declared.omitted.Omitted.{Omitted}
use Rattle.cert_maker.specs.Growth.{IsGrown}
use Rattle.cert_maker.specs.Judged.{AreJudged}
use Rattle.cert_maker.proofs.GoalSteps.{counterexample, pushed}
use Rattle.cert_maker.proofs.JudgedSteps.{kept, left-out, beyond}
use Rattle.cert_maker.proofs.omitting.Judged.add.Goals as goal

pub returns-in_ok-push-in-Tree : goal.returns-in_ok-push-in-Tree
returns-in_ok-push-in-Tree c = λ asked most is h.
    let grown = subst (IsGrown _ _ _) c.in-Tree.is c.in_ok-nodes.ensures in
    let stack = c.args.stack.now in
    let members = c.args.members.now in
    let spare = c.args.self.now.spare in
    let omitted = c.args.self.now.omitted.items in
    let place = c.args.place in
    let tree : GoalOf = record { goal = goal_seen c.args.goal.now; nodes = map node_of c.in-Tree.nodes.items } in
    let count : length tree.nodes ≡ c.len.result = (let same = length-map c.in-Tree.nodes.items node_of in let len = c.len.ensures in let is_len = c.in-Tree.nodes.ok.0 in omega (arith, same, len, is_len)) in
    let more = kept stack members asked place most spare (map goal_of c.args.self.now.grown.items) omitted tree is h (record { passes = grown.0; needed = grown.1; fits = grown.3 }) (omega (arith, count, c.len.ensures, grown.2)) in
    let trees = pushed c.args.self.now.grown.items c.push.new.self.items _ (goal_seen c.args.goal.now) c.in_ok-push-in-Tree.ensures.items c.in_ok-goal-in-Tree.ensures in
    subst (λ (n : ℕ). AreJudged stack members asked (place + 1) most (map goal_of c.push.new.self.items) omitted (spare - n)) count
    (subst (λ (ts : List GoalOf). AreJudged stack members asked (place + 1) most ts omitted (spare - length tree.nodes)) (sym trees) more)

pub returns-in_ok-push-in-Counterexample : goal.returns-in_ok-push-in-Counterexample
returns-in_ok-push-in-Counterexample c = λ asked most is h.
    let grown = subst (IsGrown _ _ _) c.in-Counterexample.is c.in_ok-nodes.ensures in
    let stack = c.args.stack.now in
    let members = c.args.members.now in
    let o : Omitted = record { goal = c.args.place; device = c.in-Counterexample.device; ending = c.in-Counterexample.ending } in
    let trees = map goal_of c.args.self.now.grown.items in
    subst (λ (os : List Omitted). AreJudged stack members asked (c.args.place + 1) most trees os c.args.self.now.spare) (sym c.in_ok-push-in-Counterexample.ensures.items)
    (left-out stack members asked c.args.place most c.args.self.now.spare trees c.args.self.now.omitted.items (goal_seen c.args.goal.now) o refl is h (counterexample stack members (goal_seen c.args.goal.now) _ _ grown))

pub returns-in-TooLarge : goal.returns-in-TooLarge
returns-in-TooLarge c = λ asked most is h.
    let grown = subst (IsGrown _ _ _) c.in-TooLarge.is c.in_ok-nodes.ensures in
    let tree : GoalOf = record { goal = goal_seen c.args.goal.now; nodes = grown.0 } in
    beyond c.args.stack.now c.args.members.now asked c.args.place most c.args.self.now.spare (map goal_of c.args.self.now.grown.items) c.args.self.now.omitted.items tree is h grown.1 grown.2
