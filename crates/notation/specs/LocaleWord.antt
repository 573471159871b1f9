-- The words of a device's locales: those that configurations have.
use Rattle.std.specs.Prelude.{ℕ, ◌==◌, ◌&&◌, not, nat_le, Bool, true, List, [], ◌∷◌, ◌++◌, length, codes, Option, Some, None, if◌then◌else◌}
use Rattle.std.specs.List.{flat_map}
use Rattle.config_record.specs.locales.Locale.{dash}
use Rattle.config_record.specs.locales.LocaleNumber.{locale_of_number}
use Rattle.config_record.specs.locales.Text.{locale_text}
use Rattle.notation.specs.Cut.{cut_at, behind_sign}
use Rattle.notation.specs.LocaleParts.{is_other_word}

-- A locale's text is its language, and behind dashes a script and a region, where it shows them.

-- a region, or nothing: no script stands there
abbrev pub is_region : Option (List ℕ) → Bool
is_region None = true
is_region (Some text) = nat_le (length text) 3

-- '+'
abbrev pub plus : ℕ
plus = 43

unfoldable pub with_plus : ℕ → List ℕ
with_plus byte = (if byte == dash then plus else byte) ∷ []

-- `es-rMX`, or `b+sr+Latn+RS` as a tag
abbrev pub word_by : List ℕ → List ℕ × Option (List ℕ) → List ℕ
word_by text parts =
    if is_region parts.1 && not (is_other_word parts.0) then parts.0 ++ behind_sign (codes "-r") parts.1
    else codes "b+" ++ flat_map with_plus text

unfoldable pub text_word : List ℕ → List ℕ
text_word text = if length text == 0 then codes "no-locale" else word_by text (cut_at dash text)

-- of a locale by its number
unfoldable pub locale_word : ℕ → List ℕ
locale_word number = text_word (locale_text (locale_of_number number))
