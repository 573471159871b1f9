use Rattle.std.proofs.Common.{◌≡◌, ℕ, ◌+◌, ◌<◌, arith, suc, add-one, List, ◌∷◌, length, map, drop, drop-cons, get_or, sym, ◌∙◌, ap, subst}
use Rattle.std.proofs.lemmas.List.{drop_all, length-map}
use Rattle.cert_checker.specs.overlay_map.Layer.{LayerOf}
use Rattle.cert_checker.specs.box_answers.NumberSet.{SetOf}
use Rattle.cert_checker.specs.res_value.declared.goal.Goal.{Goal}
use Rattle.cert_checker.specs.cert_tree.Certificate.{goal_of}
use Rattle.cert_checker.specs.res_value.Goal.{GoalSeen, goal_seen}
use Rattle.cert_maker.specs.declared.trees.Trees.{Trees}
use Rattle.cert_maker.specs.declared.made.Made.TheVariants.{Cert, NodeLimit}
use Rattle.cert_maker.specs.Made.{IsMade, CanBeWritten}
use Rattle.cert_maker.specs.Trees.{AreGrown, TakesGoal}
use Rattle.cert_maker.proofs.GoalSteps.{more-goals, accepted, written}
use Rattle.cert_maker.proofs.Least.{made-least}
use Rattle.cert_maker.proofs.making.make_watched.Given.{Over}
use Rattle.cert_maker.proofs.making.make_watched.Goals as goal

pub returns-in_default-clause-made : goal.returns-in_default-clause-made
returns-in_default-clause-made g c = more-goals c.args.stack.now c.args.members.now (map goal_seen c.args.asked.now) c.args.max_nodes (omega (arith, length-map c.args.asked.now goal_seen, c.in_default.ensures))

pub returns-in_default-clause-least : goal.returns-in_default-clause-least
returns-in_default-clause-least g c = made-least c.args.stack.now c.args.members.now (map goal_seen c.args.asked.now) c.args.max_nodes NodeLimit (returns-in_default-clause-made g c)

-- the goal of the loop's turn is the next one
next-is : (asked : List Goal) (place : ℕ) (goal : Goal) → place < length asked → goal ≡ get_or asked place goal → map goal_seen (drop place asked) ≡ goal_seen goal ∷ map goal_seen (drop (place + 1) asked)
next-is asked place goal within is =
    ap (map goal_seen) (drop-cons asked place goal within)
    ∙ ap (λ (next : Goal). goal_seen next ∷ map goal_seen (drop (suc place) asked)) (sym is)
    ∙ ap (λ (n : ℕ). goal_seen goal ∷ map goal_seen (drop n asked)) (sym (add-one place))

at-turn : (stack : List LayerOf) (sets : List SetOf) (all : List GoalSeen) (asked : List Goal) (place most : ℕ) (goal : Goal) (trees : Trees) → place < length asked → goal ≡ get_or asked place goal
    → AreGrown stack sets all (map goal_seen (drop place asked)) most trees → AreGrown stack sets all (goal_seen goal ∷ map goal_seen (drop (place + 1) asked)) most trees
at-turn stack sets all asked place most goal trees within is h = subst (λ (left : List GoalSeen). AreGrown stack sets all left most trees) (next-is asked place goal within is) h

pub loop-place-preserved : goal.loop-place-preserved
loop-place-preserved g c =
    let asked = c.args.asked.now in
    let l = c.loop-place in
    subst (TakesGoal _ _ _ l.trees c.add.new.self) c.in_default-2.is c.in_ok-made.ensures (map goal_seen asked) (map goal_seen (drop (l.place + 1) asked)) c.args.max_nodes
    (at-turn c.args.stack.now c.args.members.now (map goal_seen asked) asked l.place c.args.max_nodes c.index-asked-place.result l.trees c.loop-place-test.true c.index-asked-place.is l.invariant)

answer : (g : Over) (c : goal.After-drop-trees-in-Some-2 g) → IsMade c.args.stack.now c.args.members.now (map goal_seen c.args.asked.now) c.args.max_nodes c.in-Some-2.made × CanBeWritten c.args.members.now c.in-Some-2.made
answer g c =
    let asked = c.args.asked.now in
    let l = c.loop-place in
    subst (TakesGoal _ _ _ l.trees c.add.new.self) c.in-Some-2.is c.in_ok-made.ensures (map goal_seen asked) (map goal_seen (drop (l.place + 1) asked)) c.args.max_nodes
    (at-turn c.args.stack.now c.args.members.now (map goal_seen asked) asked l.place c.args.max_nodes c.index-asked-place.result l.trees c.loop-place-test.true c.index-asked-place.is l.invariant)

pub returns-in-Some-2-clause-made : goal.returns-in-Some-2-clause-made
returns-in-Some-2-clause-made g c = (answer g c).0

pub returns-in-Some-2-clause-least : goal.returns-in-Some-2-clause-least
returns-in-Some-2-clause-least g c = made-least c.args.stack.now c.args.members.now (map goal_seen c.args.asked.now) c.args.max_nodes c.in-Some-2.made (answer g c).0

pub returns-in-Some-2-clause-fits : goal.returns-in-Some-2-clause-fits
returns-in-Some-2-clause-fits g c = (answer g c).1

pub returns-clause-made : goal.returns-clause-made
returns-clause-made g c =
    let asked = c.args.asked.now in
    let l = c.loop-place in
    let all = subst (λ (left : List Goal). AreGrown c.args.stack.now c.args.members.now (map goal_seen asked) (map goal_seen left) c.args.max_nodes l.trees) (drop_all l.place asked c.loop-place-test.false) l.invariant in
    accepted c.args.stack.now c.args.members.now (map goal_seen asked) c.args.max_nodes l.trees.spare (map goal_of l.trees.grown.items) all

pub returns-clause-least : goal.returns-clause-least
returns-clause-least g c = made-least c.args.stack.now c.args.members.now (map goal_seen c.args.asked.now) c.args.max_nodes (Cert (record { goals = c.loop-place.trees.grown })) (returns-clause-made g c)

pub returns-clause-fits : goal.returns-clause-fits
returns-clause-fits g c = written c.args.stack.now c.args.members.now (map goal_of c.loop-place.trees.grown.items) c.loop-place.invariant.good
