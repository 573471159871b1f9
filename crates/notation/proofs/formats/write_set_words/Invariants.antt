use Rattle.std.proofs.Common.{drop}
use Rattle.config_record.proofs.SeparatorSteps.{ContinuesAllBut}
use Rattle.notation.specs.FormatsText.{format_of, set_word, bar}
use Rattle.notation.proofs.formats.write_set_words.Given as goal

-- the words so far are written
abbrev pub invariant-loop-format : goal.invariant-loop-format
invariant-loop-format g l =
    ContinuesAllBut (λ format. set_word l.bits (format_of format)) (record { byte = bar; due = l.fn.due }) (record { byte = bar; due = l.due }) (g.W.Write.contents l.fn.out) (g.W.Write.contents l.out) l.formats (drop l.format-index l.formats)
