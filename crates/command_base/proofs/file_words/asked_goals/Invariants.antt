use Rattle.std.proofs.Common.{map, string_bytes}
use Rattle.json_input.proofs.EachSteps.{EachAllBut}
use Rattle.command_base.specs.FileWords.{goal_asked, goals_held}
use Rattle.command_base.proofs.file_words.asked_goals.Given as goal

-- those of the words so far
abbrev pub invariant-loop-word : goal.invariant-loop-word
invariant-loop-word l = EachAllBut goal_asked (goals_held l.goals) l.word-index (map string_bytes l.words)
