-- What a part says.
use Rattle.std.specs.Prelude.{ℕ, List, codes, option_map, Option, Some, None}
use Rattle.std.specs.Option.{option_and_then, option_or}
use Rattle.config_record.specs.declared.coord.Coord.{Coord}
use Rattle.config_record.specs.declared.coord.Coord.TheVariants as coords
use Rattle.config_record.specs.locales.declared.locale_rule.LocaleRule.{LocaleRule}
use Rattle.notation.specs.declared.qualifier.Qualifier.{Qualifier}
use Rattle.notation.specs.declared.qualifier.Qualifier.TheVariants.{Number, Locale, Size, Version}
use Rattle.notation.specs.Cut.{cut_at, behind}
use Rattle.notation.specs.Numeral.{number_of}
use Rattle.notation.specs.LineLocale.{locale_in, IsGivenFor}
use Rattle.notation.specs.Words.{words, find_word}
use Rattle.notation.specs.Forms.{forms, numbered_by}

unfoldable pub word_in : List ℕ → Option Qualifier
word_in part = option_map (λ word. Number word.coord word.number) (find_word words part)

unfoldable pub number_in : List ℕ → Option Qualifier
number_in part = option_map (λ numbered. Number numbered.coord numbered.number) (numbered_by forms part)

-- 'x', between width and height
abbrev pub times : ℕ
times = 120

-- '.', before the part of a version that comes after
abbrev pub dot : ℕ
dot = 46

abbrev pub both : (ℕ → ℕ → Qualifier) → Option ℕ → Option ℕ → Option Qualifier
both make (Some first) (Some second) = Some (make first second)
both make _ _ = None

-- two numbers, of which the second is `missing` where nothing stands behind the sign
abbrev pub two_numbers : (ℕ → ℕ → Qualifier) → Option ℕ → List ℕ → Option (List ℕ) → Option Qualifier
two_numbers make missing first None = both make (number_of first) missing
two_numbers make missing first (Some second) = both make (number_of first) (number_of second)

unfoldable pub size_in : List ℕ → Option Qualifier
size_in part = two_numbers Size None (cut_at times part).0 (cut_at times part).1

unfoldable pub version_of : List ℕ → Option Qualifier
version_of text = two_numbers Version (Some 0) (cut_at dot text).0 (cut_at dot text).1

unfoldable pub version_in : List ℕ → Option Qualifier
version_in part = option_and_then version_of (behind (codes "v") part)

-- one or two numbers
unfoldable pub numbers_in : List ℕ → Option Qualifier
numbers_in part = option_or (word_in part) (option_or (number_in part) (option_or (size_in part) (version_in part)))

unfoldable pub locales_in : LocaleRule → List ℕ → Option Qualifier
locales_in rule part = option_map Locale (locale_in rule part)

-- A word comes first: a part `car` is the type of a device's interface, and no language.
unfoldable pub qualifier_in : LocaleRule → List ℕ → Option Qualifier
qualifier_in rule part = option_or (numbers_in part) (locales_in rule part)

-- a qualifier that is a locale is one that a device can have
abbrev pub HasGivenFor : LocaleRule → Qualifier → Type 0
HasGivenFor rule (Locale locale) = IsGivenFor rule locale
HasGivenFor rule _ = Unit {0}

-- Two parts are of one kind where they speak of one coordinate. A size is told by its width, a version by its first number.
abbrev pub kind_of : Qualifier → Coord
kind_of (Number coord number) = coord
kind_of (Locale locale) = coords.Locale
kind_of (Size width height) = coords.Width
kind_of (Version sdk minor) = coords.Sdk
