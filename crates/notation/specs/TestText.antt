-- A test of one coordinate, as text.
use Rattle.std.specs.Prelude.{ℕ, ◌+◌, ◌==◌, List, length, codes, if◌then◌else◌}
use Rattle.std.specs.Fmt.{decimal}
use Rattle.config_box.specs.box_answers.NumberSet.{locale_numbers}
use Rattle.config_box.specs.Tests.{NumbersOf, LocalesOf, TestOf, AtMostOf, AmongOf}
use Rattle.notation.specs.NumberWord.{letters_at, in_letters, number_word}
use Rattle.notation.specs.LocaleWord.{locale_word}
use Rattle.notation.specs.DevicesNotation.{listed}

unfoldable pub among_text : (ℕ → List ℕ) → List ℕ → List ℕ
among_text word numbers = if length numbers == 0 then codes "nothing" else listed word numbers

unfoldable pub test_text : TestOf → List ℕ
test_text (AtMostOf c most) = in_letters (letters_at c) (codes "<") (decimal (most + 1))
test_text (AmongOf c (NumbersOf numbers)) = among_text (number_word c) numbers
test_text (AmongOf c (LocalesOf locales)) = among_text locale_word (locale_numbers locales)
