-- Which of two regions is nearer to a device (AOSP: localeDataCompareRegions). Each is looked at with the device's language, as a
-- locale under the device's script; under a script that is not known CLDR lists nothing.
use Rattle.std.specs.Prelude.{ℕ, ◌+◌, ◌==◌, ◌&&◌, ◌||◌, not, nat_lt, Bool, if◌then◌else◌, List, position, slice_index, unwrap_or}
use Rattle.std.specs.List.{list_any}
use Rattle.std.specs.Option.{option_map_or}
use Rattle.locales.specs.TextNumber.{number_of_text}
use Rattle.locales.specs.Facts.{language_of, region_of, is_representative_of}
use Rattle.locales.specs.Line.{line_of, first_met}
use Rattle.locales.specs.declared.compared.DeviceLocale.{DeviceLocale}
use Rattle.locales.specs.Words.{exactly_one, locale_of_device}

-- ---- Spanish in the US and in Mexico

abbrev pub latin_american : ℕ
latin_american = number_of_text "es-419"

abbrev pub is_special_spanish : ℕ → Bool
is_special_spanish x = x == number_of_text "es-US" || x == number_of_text "es-MX"

-- in the place of the first es-419 stands where it alone is one of the two, and the other is not es-419
unfoldable pub stand_in : ℕ → ℕ → ℕ
stand_in x y = if is_special_spanish x && not (is_special_spanish y) && not (y == latin_american) then latin_american else x

-- ---- the way from one line to another

abbrev pub stands_in : List ℕ → ℕ → Bool
stands_in line locale = list_any (λ other. other == locale) line

-- the place in a line of the first locale that stands in another line, and its place there, both counted from 0
unfoldable pub distance : List ℕ → List ℕ → ℕ
distance from to =
    let n = unwrap_or (position (stands_in to) from) 0 in
    n + unwrap_or (position (λ other. other == slice_index from n) to) 0

-- ---- the nearer of two locales

-- what decides where the device's line comes to neither
unfoldable pub is_nearer_aside : ℕ → ℕ → ℕ → List ℕ → Bool
is_nearer_aside x y script line =
    let m = distance (line_of x script) line in
    let n = distance (line_of y script) line in
    let one = is_representative_of x script in
    let other = is_representative_of y script in
    if not (m == n) then nat_lt m n
    else if exactly_one one other then one
    else nat_lt (region_of x) (region_of y)

-- the one to which the device's line comes first is nearer
unfoldable pub is_nearer_locale : ℕ → ℕ → ℕ → List ℕ → Bool
is_nearer_locale x y script line = option_map_or (λ met. met == x) (first_met line x y) (is_nearer_aside x y script line)

-- of two regions, which are not equal, the first
unfoldable pub is_nearer_of : ℕ → ℕ → DeviceLocale → Bool
is_nearer_of one other d =
    let x = language_of (locale_of_device d) + one in
    let y = language_of (locale_of_device d) + other in
    let script = d.script in
    is_nearer_locale (stand_in x y) (stand_in y x) script (line_of (locale_of_device d) script)
