-- The devices of a part of a box, as text: what the part has at the coordinates where it is narrower.
use Rattle.std.specs.Prelude.{ℕ, ◌+◌, ◌/◌, ◌==◌, ◌&&◌, nat_le, nat_lt, Bool, false, List, [], ◌∷◌, ◌++◌, length, codes, if◌then◌else◌}
use Rattle.std.specs.List.{flat_map, list_any, join_with_byte}
use Rattle.std.specs.Fmt.{decimal}
use Rattle.config_record.specs.declared.coord.Coord.{Coord}
use Rattle.config_record.specs.declared.coord.Coord.TheVariants as coords
use Rattle.config_record.specs.Coord.{all_coords}
use Rattle.notation.specs.LineParts.{line_order}
use Rattle.config_box.specs.box_answers.NumberSet.{SetOf, RangeOf, NumbersOf, LocalesOf}
use Rattle.config_box.specs.box_answers.Members.{set_at}
use Rattle.notation.specs.NumberWord.{LettersOf, letters_at, in_letters, number_word}
use Rattle.notation.specs.LocaleWord.{locale_word}
use Rattle.notation.specs.Narrower.{is_narrower}

-- ---- lists

-- ','
abbrev pub comma : ℕ
comma = 44

-- the word of a number, where that is none of the others
unfoldable pub word_unless : (ℕ → List ℕ) → List ℕ → ℕ → List (List ℕ)
word_unless word others number = if list_any (λ n. n == number) others then [] else word number ∷ []

-- words with commas between them, without those of the others
abbrev pub listed_but : (ℕ → List ℕ) → List ℕ → List ℕ → List ℕ
listed_but word others numbers = join_with_byte comma (flat_map (word_unless word others) numbers)

abbrev pub listed : (ℕ → List ℕ) → List ℕ → List ℕ
listed word numbers = listed_but word [] numbers

-- more than half of a list of at least five
abbrev pub are_most : List ℕ → List ℕ → Bool
are_most whole part = nat_le 5 (length whole) && nat_lt (length whole / 2) (length part)

-- the shorter one of what is there and what is not
unfoldable pub choice_text : (ℕ → List ℕ) → List ℕ → List ℕ → List ℕ
choice_text word whole part =
    if are_most whole part then codes "all but " ++ listed_but word part whole else listed word part

-- those of a set of the same kind
abbrev pub numbers_in : SetOf → List ℕ
numbers_in (NumbersOf numbers) = numbers
numbers_in set = []

abbrev pub locales_in : SetOf → List ℕ
locales_in (LocalesOf numbers) = numbers
locales_in set = []

-- ---- ranges

abbrev pub begins_with : SetOf → ℕ → Bool
begins_with (RangeOf low high) number = low == number
begins_with set number = false

abbrev pub ends_with : SetOf → ℕ → Bool
ends_with (RangeOf low high) number = high == number
ends_with set number = false

-- a bound is left out where it is that of the whole
abbrev pub bounds_text : LettersOf → SetOf → ℕ → ℕ → List ℕ
bounds_text letters whole low high =
    if begins_with whole low then in_letters letters (codes "<") (decimal (high + 1))
    else if ends_with whole high then in_letters letters (codes ">=") (decimal low)
    else in_letters letters letters.sign (decimal low ++ codes ".." ++ decimal high)

unfoldable pub range_text : Coord → SetOf → ℕ → ℕ → List ℕ
range_text c whole low high = if low == high then number_word c low else bounds_text (letters_at c) whole low high

-- ---- the devices

-- what the part has at a coordinate, beside what the whole has there
unfoldable pub set_text : Coord → SetOf → SetOf → List ℕ
set_text c whole (RangeOf low high) = range_text c whole low high
set_text c whole (NumbersOf numbers) = choice_text (number_word c) (numbers_in whole) numbers
set_text c whole (LocalesOf numbers) = choice_text locale_word (locales_in whole) numbers

unfoldable pub narrower_text : List SetOf → List SetOf → Coord → List ℕ
narrower_text whole part c = if is_narrower whole part c then codes " " ++ set_text c (set_at whole c) (set_at part c) else []

-- The order of the parts of a configuration. There the height stands with the width, and the minor version with the version.
unfoldable pub both_text : List SetOf → List SetOf → Coord → List ℕ
both_text whole part coords.Width = narrower_text whole part coords.Width ++ narrower_text whole part coords.Height
both_text whole part coords.Sdk = narrower_text whole part coords.Sdk ++ narrower_text whole part coords.Minor
both_text whole part c = narrower_text whole part c

-- nothing where the part is narrower at no coordinate
unfoldable pub devices_text : List SetOf → List SetOf → List ℕ
devices_text whole part =
    if list_any (is_narrower whole part) all_coords then codes " on" ++ flat_map (both_text whole part) line_order else []
