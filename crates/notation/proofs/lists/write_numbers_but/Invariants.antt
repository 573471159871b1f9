use Rattle.std.proofs.Common.{drop, false}
use Rattle.config_record.proofs.SeparatorSteps.{ContinuesAllBut}
use Rattle.notation.specs.NumberWord.{number_word}
use Rattle.notation.specs.DevicesNotation.{comma, word_unless}
use Rattle.notation.proofs.lists.write_numbers_but.Given as goal

-- the words so far are written
abbrev pub invariant-loop-number : goal.invariant-loop-number
invariant-loop-number g l =
    ContinuesAllBut (word_unless (number_word l.coord) l.others) (record { byte = comma; due = false }) (record { byte = comma; due = l.due }) (g.W.Write.contents l.fn.out) (g.W.Write.contents l.out) l.numbers (drop l.number-index l.numbers)
