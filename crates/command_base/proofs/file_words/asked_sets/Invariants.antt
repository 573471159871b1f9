use Rattle.std.proofs.Common.{map, string_bytes}
use Rattle.json_input.proofs.EachSteps.{EachAllBut}
use Rattle.command_base.specs.FileWords.{set_asked, sets_held}
use Rattle.command_base.proofs.file_words.asked_sets.Given as goal

-- those of the words so far
abbrev pub invariant-loop-word : goal.invariant-loop-word
invariant-loop-word l = EachAllBut set_asked (sets_held l.sets) l.word-index (map string_bytes l.words)
