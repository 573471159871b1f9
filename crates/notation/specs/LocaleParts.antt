-- What the text of a configuration has of its locale: a language, a region, a script and a variant (AOSP:
-- ResTable_config::appendDirLocale).
use Rattle.std.specs.Prelude.{ℕ, ◌==◌, ◌&&◌, ◌||◌, not, nat_le, Bool, true, List, [], ◌∷◌, ◌++◌, length, codes, Option, Some, None, is_some, if◌then◌else◌}
use Rattle.std.specs.List.{list_all}
use Rattle.config_record.specs.locales.declared.locale.Locale.{Locale}
use Rattle.config_record.specs.locales.Zero.{is_zero}
use Rattle.config_record.specs.locales.Locale.{dash, is_small_letter, is_digit}
use Rattle.config_record.specs.locales.Text.{written_script, locale_text}
use Rattle.config_record.specs.Qualifiers.{locale_qualifier, bytes_qualifier}
use Rattle.notation.specs.Cut.{cut_at, behind_sign}
use Rattle.notation.specs.Words.{words, find_word}

-- ---- what letters can say

-- two or three letters; the text of bytes that spell no language is longer
abbrev pub is_language : List ℕ → Bool
is_language text = length text == 2 || length text == 3

abbrev pub is_script : List ℕ → Bool
is_script bytes = is_zero bytes || is_some (written_script bytes)

-- what stands before its zeros
abbrev pub variant_text : List ℕ → List ℕ
variant_text variant = (cut_at 0 variant).0

abbrev pub is_variant_letter : ℕ → Bool
is_variant_letter byte = is_small_letter byte || is_digit byte

abbrev pub are_zeros : Option (List ℕ) → Bool
are_zeros None = true
are_zeros (Some bytes) = is_zero bytes

-- four small letters and digits, or more, and only zeros behind them
abbrev pub is_written_variant : List ℕ → Bool
is_written_variant variant =
    nat_le 4 (length (variant_text variant)) && list_all is_variant_letter (variant_text variant) && are_zeros (cut_at 0 variant).1

abbrev pub is_variant : List ℕ → Bool
is_variant bytes = is_zero bytes || is_written_variant bytes

abbrev pub are_letters : List ℕ → List ℕ → List ℕ → Bool
are_letters language script variant = is_language language && is_script script && is_variant variant

-- ---- in letters

-- a language that is a word of another kind, as `car`
abbrev pub is_other_word : List ℕ → Bool
is_other_word language = is_some (find_word words language)

abbrev pub script_behind : List ℕ → List ℕ
script_behind script = if is_zero script then [] else codes "+" ++ script

abbrev pub variant_behind : List ℕ → List ℕ
variant_behind variant = if is_zero variant then [] else codes "+" ++ variant_text variant

-- `b+sr+Latn+RS`
abbrev pub tag_text : List ℕ → Option (List ℕ) → List ℕ → List ℕ → List ℕ
tag_text language region script variant =
    codes "b+" ++ language ++ script_behind script ++ behind_sign (codes "+") region ++ variant_behind variant

-- `fr-rCA`, or a tag where that would not say all, or would say something else
unfoldable pub letters_text : List ℕ → Option (List ℕ) → List ℕ → List ℕ → List ℕ
letters_text language region script variant =
    if is_zero script && is_zero variant && not (is_other_word language) then language ++ behind_sign (codes "-r") region
    else tag_text language region script variant

-- ---- one part, or one for each of what the letters cannot say

abbrev pub named_parts : Locale → List ℕ → List ℕ → List (List ℕ)
named_parts locale script variant =
    locale_qualifier locale ++ bytes_qualifier (codes "script") script ++ bytes_qualifier (codes "variant") variant

abbrev pub parts_by_letters : Locale → List ℕ × Option (List ℕ) → List ℕ → List ℕ → List (List ℕ)
parts_by_letters locale texts script variant =
    if are_letters texts.0 script variant then letters_text texts.0 texts.1 script variant ∷ []
    else named_parts locale script variant

unfoldable pub locale_parts : Locale → List ℕ → List ℕ → List (List ℕ)
locale_parts locale script variant = parts_by_letters locale (cut_at dash (locale_text locale)) script variant
