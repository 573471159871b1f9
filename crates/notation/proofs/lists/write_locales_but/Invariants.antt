use Rattle.std.proofs.Common.{drop, map, false}
use Rattle.config_record.specs.locales.LocaleNumber.{locale_number}
use Rattle.config_record.proofs.SeparatorSteps.{ContinuesAllBut}
use Rattle.notation.specs.LocaleWord.{locale_word}
use Rattle.notation.specs.DevicesNotation.{comma, word_unless}
use Rattle.notation.proofs.lists.write_locales_but.Given as goal

-- the words so far are written
abbrev pub invariant-loop-locale : goal.invariant-loop-locale
invariant-loop-locale g l =
    ContinuesAllBut (λ locale. word_unless locale_word (map locale_number l.others) (locale_number locale)) (record { byte = comma; due = false }) (record { byte = comma; due = l.due }) (g.W.Write.contents l.fn.out) (g.W.Write.contents l.out) l.locales (drop l.locale-index l.locales)
