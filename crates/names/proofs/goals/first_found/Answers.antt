use Rattle.std.proofs.Common.{List, [], map, ap, sym, ◌∙◌}
use Rattle.std.proofs.lemmas.List.{drop_all}
use Rattle.std.proofs.lemmas.Result.{err_from_is_err_and}
use Rattle.contract_words.specs.Sequences.{joined_each}
use Rattle.contract_words.proofs.SequenceSteps.{with_front_nil}
use Rattle.res_value.specs.Goal.{goal_seen}
use Rattle.res_value.specs.declared.goal.Goal.{Goal}
use Rattle.names.specs.declared.named_goal.NamedGoal.{NamedGoal}
use Rattle.names.specs.NamedGoal.{named_goal_of}
use Rattle.names.specs.AskedNames.{names_in_goal}
use Rattle.names.specs.NamedGoals.{goals_of_word, goals_named}
use Rattle.names.proofs.AskedSteps.{split_at}
use Rattle.names.proofs.FirstSteps.{FirstBut-next, FirstBut-stops, FirstBut-end, first-missing, take-none}
use Rattle.names.proofs.TellsSteps.{Tells-first}
use Rattle.names.proofs.goals.first_found.Goals as goal

pub loop-goal-init : goal.loop-goal-init
unfolding goals_named
loop-goal-init c = λ layers told. (
  told,
  record {
    so_far = [];
    are = ap (λ (goals : List Goal). map goal_seen goals) c.new-first.ensures.items ∙ sym (take-none c.args.most);
    read = record { others = with_front_nil (joined_each (goals_of_word layers) (map named_goal_of c.args.goals.now)) };
  },
)

pub loop-goal-preserved : goal.loop-goal-preserved
loop-goal-preserved c = λ layers told.
    let so_far = c.loop-goal.invariant layers told in
    let word = c.goal-item.result in
    let split = split_at c.args.goals.now c.loop-goal.goal-index word c.loop-goal-test.true c.goal-item.is in
    let first = Tells-first (λ (goal : NamedGoal). names_in_goal (named_goal_of goal)) layers _ _ _ word so_far.0 split in (
      (c.in_ok-found.ensures layers _ first).0,
      FirstBut-next (goals_of_word layers) c.args.most _ _ _ _ _ (named_goal_of word) _ so_far.1 (ap (λ (left : List NamedGoal). map named_goal_of left) split)
          (c.in_ok-found.ensures layers _ first).1 c.in_ok-push_first.ensures,
    )

pub returns-in_err-found : goal.returns-in_err-found
returns-in_err-found c = λ layers told.
    let so_far = c.loop-goal.invariant layers told in
    let word = c.goal-item.result in
    let split = split_at c.args.goals.now c.loop-goal.goal-index word c.loop-goal-test.true c.goal-item.is in
    let first = Tells-first (λ (goal : NamedGoal). names_in_goal (named_goal_of goal)) layers _ _ _ word so_far.0 split in
    let p = err_from_is_err_and c.from_residual.result c.from_residual.ensures.1 in
    rw (p.1, p.2) (λ other.
    first-missing layers (map named_goal_of c.args.goals.now) c.args.most _
    (FirstBut-stops (goals_of_word layers) c.args.most _ _ _ (named_goal_of word) _ _ so_far.1 (ap (λ (left : List NamedGoal). map named_goal_of left) split)
    ((c.in_err-found.ensures layers _ first).1 other)))

pub returns : goal.returns
returns c = λ layers told.
    FirstBut-end (goals_of_word layers) layers (map named_goal_of c.args.goals.now) c.args.most _ _ (c.loop-goal.invariant layers told).1
    (ap (λ (left : List NamedGoal). map named_goal_of left) (drop_all c.loop-goal.goal-index c.args.goals.now c.loop-goal-test.false))
