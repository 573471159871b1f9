-- The line of a locale under a script: the locale, its parent, the parent of that, and so on.
use Rattle.std.specs.Prelude.{ℕ, zero, suc, ◌+◌, ◌==◌, ◌||◌, nat_eq, Bool, List, [], ◌∷◌, find, Option, Some}
use Rattle.std.specs.Option.{option_map_or, option_eq}
use Rattle.locales.specs.TextNumber.{number_of_text, script_number}
use Rattle.locales.specs.Facts.{parent_of}

-- the first of those that stand above a locale, at most so many: its parent, the parent of that, and so on
unfoldable pub first_above : ℕ → ℕ → ℕ → List ℕ
first_above zero locale script = []
first_above (suc most) locale script = option_map_or (λ parent. parent ∷ first_above most parent script) (parent_of locale script) []

-- no locale has more than three above it
unfoldable pub line_of : ℕ → ℕ → List ℕ
line_of locale script = locale ∷ first_above 3 locale script

-- the one of two locales to which a line comes first
abbrev pub first_met : List ℕ → ℕ → ℕ → Option ℕ
first_met line one other = find (λ locale. locale == one || locale == other) line

-- English in a region is nearer to that of the US than to that of the world: its line comes to en before it comes to en-001
unfoldable pub is_near_us_english_of : ℕ → Bool
is_near_us_english_of region =
    let english = number_of_text "en" in
    let line = line_of (english + region) (script_number "Latn") in
    option_eq nat_eq (first_met line english (number_of_text "en-001")) (Some english)
