-- What CLDR says of a locale: its likely script, its parent, and whether it stands for its language. A locale and a script are
-- numbers (TextNumber.antt), in which 0 is none.
use Rattle.std.specs.Prelude.{ℕ, ◌-◌, ◌%◌, ◌^◌, ◌==◌, Bool, if◌then◌else◌, Option, Some, None, unwrap_or}
use Rattle.std.specs.Option.{option_or}
use Rattle.locales.specs.Lines.{script_in, parent_in, has_line}
use Rattle.locales.specs.LikelyScripts.{likely_scripts}
use Rattle.locales.specs.Parents.{parents}
use Rattle.locales.specs.Representatives.{representatives}

abbrev pub region_of : ℕ → ℕ
region_of locale = locale % 2 ^ 16

-- the locale without its region
abbrev pub language_of : ℕ → ℕ
language_of locale = locale - region_of locale

-- the script in the line of the locale, or else in that of its language; without a language there is none
unfoldable pub likely_of : ℕ → Option ℕ
likely_of locale =
    if language_of locale == 0 then None
    else option_or (script_in likely_scripts locale) (script_in likely_scripts (language_of locale))

-- the parent in the line of the locale under the script, or else its language; without a region there is none
unfoldable pub parent_of : ℕ → ℕ → Option ℕ
parent_of locale script =
    if region_of locale == 0 then None
    else Some (unwrap_or (parent_in parents locale script) (language_of locale))

-- a line has the locale with the script
unfoldable pub is_representative_of : ℕ → ℕ → Bool
is_representative_of locale script = has_line representatives locale script
