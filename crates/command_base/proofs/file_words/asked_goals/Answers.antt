use Rattle.std.proofs.Common.{◌≡◌, ◌+◌, List, Ok, Err, String, map, string_bytes, subst, sym}
use Rattle.std.specs.declared.alloc.Global.{Global}
use Rattle.std.proofs.lemmas.Result.{err_from_is_err_and}
use Rattle.json_input.proofs.EachSteps.{EachAllBut, EachAllBut-next_item_seen, EachAllBut-stops_item, EachAllBut-end_item}
use Rattle.names.specs.NamedGoal.{named_goal_of}
use Rattle.command_base.specs.names.declared.named_goal.NamedGoal.{NamedGoal}
use Rattle.command_base.specs.FileWords.{goal_asked}
use Rattle.command_base.specs.Stop.{stop_of}
use Rattle.command_base.proofs.file_words.asked_goals.Goals as goal

pub loop-word-preserved : goal.loop-word-preserved
loop-word-preserved c =
    let words = c.args.words.now in
    let place = c.loop-word.word-index in
    subst (λ (goals : List NamedGoal). EachAllBut goal_asked (map named_goal_of goals) (place + 1) (map string_bytes words)) (sym c.in_ok-push.ensures.items)
    (EachAllBut-next_item_seen goal_asked string_bytes named_goal_of _ place words _ _ c.loop-word.invariant c.loop-word-test.true
    (subst (λ (word : String Global). goal_asked (string_bytes word) ≡ Ok (named_goal_of c.in_ok-goal.goal)) c.word-item.is c.in_ok-goal.ensures))

pub returns-in_err-goal : goal.returns-in_err-goal
returns-in_err-goal c =
    let p = err_from_is_err_and c.from_residual.result c.from_residual.ensures.1 in
    rw (p.1, p.2) (λ other. EachAllBut-stops_item goal_asked string_bytes _ _ c.args.words.now _ _ c.loop-word.invariant c.loop-word-test.true
    (subst (λ (word : String Global). goal_asked (string_bytes word) ≡ Err (stop_of c.in_err-goal.field-0.0)) c.word-item.is (c.in_err-goal.ensures other)))

pub returns : goal.returns
returns c = EachAllBut-end_item goal_asked string_bytes _ _ c.args.words.now c.loop-word.invariant c.loop-word-test.false
