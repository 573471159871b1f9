use Rattle.std.proofs.Common.{◌≡◌, ℕ, ◌<◌, arith, List, get_or, length, map, ap, sym, ◌∙◌, Some, subst}
use Rattle.std.specs.Prelude.{slice_get}
use Rattle.std.proofs.lemmas.List.{length-map, get_or-map}
use Rattle.std.proofs.lemmas.Option.{slice_get-get_or}
use Rattle.cert_checker.specs.res_value.declared.goal.Goal.{Goal}
use Rattle.cert_checker.specs.res_value.Goal.{GoalSeen, goal_seen}
use Rattle.cert_maker.specs.Judged.{Judges}
use Rattle.cert_maker.proofs.JudgedSteps.{certified}
use Rattle.cert_maker.proofs.omitting.make_omitting.Goals as goal

-- the goal of the loop's turn is the one at its place
at-turn : (asked : List Goal) (place : ℕ) (goal : Goal) → place < length asked → goal ≡ get_or asked place goal → slice_get (map goal_seen asked) place ≡ Some (goal_seen goal)
at-turn asked place goal within is =
    let count = length-map asked goal_seen in
    slice_get-get_or (map goal_seen asked) place (goal_seen goal) (omega (arith, count, within))
    ∙ ap (λ (g : GoalSeen). Some g) (get_or-map goal_seen asked place goal (goal_seen goal) within ∙ ap goal_seen (sym is))

pub returns-then-not-branch : goal.returns-then-not-branch
returns-then-not-branch g c =
    let l = c.loop-place in
    subst (Judges _ _ _ _ l.judged c.add.new.self) c.if-not-branch.true c.in_ok-add.ensures (map goal_seen c.args.asked.now) c.args.max_nodes
    (at-turn c.args.asked.now l.place c.index-asked-place.result c.loop-place-test.true c.index-asked-place.is) l.invariant

pub loop-place-preserved : goal.loop-place-preserved
loop-place-preserved g c =
    let l = c.loop-place in
    subst (Judges _ _ _ _ l.judged c.add.new.self) c.if-not-branch.false c.in_ok-add.ensures (map goal_seen c.args.asked.now) c.args.max_nodes
    (at-turn c.args.asked.now l.place c.index-asked-place.result c.loop-place-test.true c.index-asked-place.is) l.invariant

pub returns : goal.returns
returns g c =
    let l = c.loop-place in
    let count = length-map c.args.asked.now goal_seen in
    let end = c.loop-place-test.false in
    certified c.args.stack.now c.args.members.now (map goal_seen c.args.asked.now) l.place c.args.max_nodes l.judged.spare (record { goals = l.judged.grown }) l.judged.omitted.items
    (omega (arith, count, end)) l.invariant
