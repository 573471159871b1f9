-- The numbers of the locales and scripts that texts give: the bytes that a record has of them, the first one the highest.
use Rattle.std.specs.Prelude.{ℕ, ◌++◌, codes, Result, Ok, Err}
use Rattle.std.specs.Int.{w32, from_be_bytes}
use Prim.Native.String.{String}
use Rattle.locales.specs.declared.locale.Locale.{Locale}
use Rattle.locales.specs.declared.locale.LocaleFault.{LocaleFault}
use Rattle.locales.specs.Locale.{locale_of}

-- the four bytes of its language and its region
unfoldable pub number_of : Locale → ℕ
number_of locale = from_be_bytes w32 (locale.language ++ locale.region)

abbrev pub number_in : Result Locale LocaleFault → ℕ
number_in (Ok locale) = number_of locale
number_in (Err fault) = 0

-- the number of the locale that a text gives, 0 where it gives none
abbrev pub number_of_text : String → ℕ
number_of_text text = number_in (locale_of (codes text))

-- the four letters of a script
abbrev pub script_number : String → ℕ
script_number text = from_be_bytes w32 (codes text)
