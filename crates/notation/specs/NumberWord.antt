-- The words of a device's numbers, and the letters of those that have none.
use Rattle.std.specs.Prelude.{ℕ, List, [], ◌++◌, codes, Option, Some, None, unwrap_or}
use Rattle.std.specs.Fmt.{decimal}
use Rattle.config_record.specs.declared.coord.Coord.{Coord}
use Rattle.config_record.specs.declared.coord.Coord.TheVariants as coords
use Rattle.config_record.specs.Coord.{name_of}
use Rattle.notation.specs.Words.{words, word_for}
use Rattle.notation.specs.Forms.{FormOf, forms, form_for}
use Rattle.notation.specs.declared.number_word.Letters.{Letters}

-- what stands before a number and behind it; the sign is left out where another one stands there
pub record LettersOf : Type 0 where
  pub front : List ℕ
  pub sign : List ℕ
  pub end : List ℕ

abbrev pub letters_of : Letters → LettersOf
letters_of letters = record { front = letters.front.now; sign = letters.sign.now; end = letters.end.now }

-- `sw` and `dp`; else a name, as `width=`
abbrev pub letters_by : Coord → Option FormOf → LettersOf
letters_by c None = record { front = name_of c; sign = codes "="; end = [] }
letters_by c (Some form) = record { front = form.front; sign = []; end = form.end }

-- a version stands behind `v`, as the part of a configuration does
unfoldable pub letters_at : Coord → LettersOf
letters_at coords.Sdk = record { front = codes "v"; sign = []; end = [] }
letters_at c = letters_by c (form_for forms c)

-- a text in the place of the number
abbrev pub in_letters : LettersOf → List ℕ → List ℕ → List ℕ
in_letters letters sign text = letters.front ++ sign ++ text ++ letters.end

abbrev pub number_text : LettersOf → ℕ → List ℕ
number_text letters number = in_letters letters letters.sign (decimal number)

unfoldable pub number_word : Coord → ℕ → List ℕ
number_word c number = unwrap_or (word_for words c number) (number_text (letters_at c) number)
