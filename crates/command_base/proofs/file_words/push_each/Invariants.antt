use Rattle.std.proofs.Common.{◌≡◌, ◌++◌, map, take}
use Rattle.command_base.specs.FileWords.{strings_held}
use Rattle.command_base.proofs.file_words.push_each.Given as goal

-- the words so far are pushed
abbrev pub invariant-loop-word : goal.invariant-loop-word
invariant-loop-word l = strings_held l.asked ≡ strings_held l.initial.asked ++ map (λ word. word.now) (take l.word-index l.words)
