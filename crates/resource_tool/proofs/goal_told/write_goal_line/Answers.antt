use Rattle.std.proofs.lemmas.Result.{on_ok_weaker}
use Rattle.std.proofs.KnownBytes.{Appends-trans}
use Rattle.resource_tool.specs.GoalTold.{goal_line}
use Rattle.resource_tool.proofs.goal_told.write_goal_line.Goals as goal

pub returns : goal.returns
unfolding goal_line
returns g c =
    let to_words = Appends-trans _ _ _ _ _ c.in_ok-write.ensures.bytes c.in_ok-write_named_words.ensures in
    on_ok_weaker c.write_all.result (λ last. Appends-trans _ _ _ _ _ to_words last) c.write_all.ensures.bytes
