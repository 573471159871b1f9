-- Locales: their texts, and the four bytes that these stand for.
use Rattle.std.specs.Prelude.{◌≡◌, ℕ, ◌+◌, ◌-◌, ◌*◌, ◌/◌, ◌%◌, ◌==◌, ◌&&◌, ◌||◌, not, nat_le, nat_lt, Bool, if◌then◌else◌, List, [], ◌∷◌, ◌++◌, length, take, drop, position, slice_index, codes, Option, Some, None, is_some, unwrap_or, Result, Ok}
use Rattle.hex.specs.Hex.{encode_lower}
use Rattle.contract_words.specs.Faults.{checked_by}
use Rattle.locales.specs.declared.locale.Locale.{Locale}
use Rattle.locales.specs.declared.locale.LocaleFault.{LocaleFault}
use Rattle.locales.specs.declared.locale.LocaleFault.TheVariants.{RegionAlone, Malformed}
use Rattle.locales.specs.declared.locale.Symbols.{Symbols}
use Rattle.locales.specs.declared.locale.Symbols.TheVariants.{Two, Three}
use Rattle.locales.specs.Zero.{is_zero}

-- 'a', from which the letters of a language are counted
abbrev pub first_letter : ℕ
first_letter = 97

-- '0', from which the digits of a region are counted
abbrev pub first_digit : ℕ
first_digit = 48

abbrev pub dash : ℕ
dash = 45

-- 'a' to 'z'
abbrev pub is_small_letter : ℕ → Bool
is_small_letter b = nat_le first_letter b && nat_le b 122

-- 'A' to 'Z'
abbrev pub is_capital_letter : ℕ → Bool
is_capital_letter b = nat_le 65 b && nat_le b 90

-- '0' to '9'
abbrev pub is_digit : ℕ → Bool
is_digit b = nat_le first_digit b && nat_le b 57

-- ---- the two bytes of a language or a region

-- Three symbols, each five bits, counted from a base (AOSP: packLanguageOrRegion). From bit 15 on: a
-- set bit, the third, the second, the first.
abbrev pub packed : ℕ → ℕ → ℕ → ℕ → List ℕ
packed base a b c = (128 + 4 * (c - base) + (b - base) / 8) ∷ ((b - base) % 8 * 32 + (a - base)) ∷ []

-- two symbols of one kind stand for themselves, three of another are packed
abbrev pub part_of : (ℕ → Bool) → (ℕ → Bool) → ℕ → List ℕ → Option (List ℕ)
part_of two three base (a ∷ b ∷ []) = if two a && two b then Some (a ∷ b ∷ []) else None
part_of two three base (a ∷ b ∷ c ∷ []) = if three a && three b && three c then Some (packed base a b c) else None
part_of two three base _ = None

-- a language is two or three small letters
abbrev pub language_of : List ℕ → Option (List ℕ)
language_of = part_of is_small_letter is_small_letter first_letter

-- a region is two capital letters or three digits
abbrev pub region_of : List ℕ → Option (List ℕ)
region_of = part_of is_capital_letter is_digit first_digit

-- where there is none
abbrev pub no_part : List ℕ
no_part = 0 ∷ 0 ∷ []

abbrev pub no_script : List ℕ
no_script = 0 ∷ 0 ∷ 0 ∷ 0 ∷ []

-- a language and a region, by which alone it is compared
abbrev pub without_script : List ℕ → List ℕ → Locale
without_script language region = record { language = language; region = region; script = no_script }

-- ---- the locale of a text: a language, and a region after a dash, or nothing at all

abbrev pub without_region : List ℕ → Result Locale LocaleFault
without_region text =
    checked_by ((not (length text == 0 || is_some (language_of text)), Malformed) ∷ [])
    (Ok (without_script (unwrap_or (language_of text) no_part) no_part))

-- what can be wrong with a language and a region, in the order of the checks
abbrev pub with_region_faults : List ℕ → List ℕ → List (Bool × LocaleFault)
with_region_faults language region =
    (not (is_some (region_of region)), Malformed)
    ∷ (length language == 0, RegionAlone)
    ∷ (not (is_some (language_of language)), Malformed)
    ∷ []

abbrev pub with_region : List ℕ → List ℕ → Result Locale LocaleFault
with_region language region =
    checked_by (with_region_faults language region)
    (Ok (without_script (unwrap_or (language_of language) no_part) (unwrap_or (region_of region) no_part)))

-- of a language, and of a region where there is one
abbrev pub locale_of_parts : List ℕ → Option (List ℕ) → Result Locale LocaleFault
locale_of_parts language None = without_region language
locale_of_parts language (Some region) = with_region language region

-- cut at the first dash
abbrev pub cut_at : List ℕ → Option ℕ → Result Locale LocaleFault
cut_at text None = without_region text
cut_at text (Some place) = with_region (take place text) (drop (place + 1) text)

abbrev pub locale_of : List ℕ → Result Locale LocaleFault
locale_of text = cut_at text (position (λ b. b == dash) text)

-- ---- the text of a locale

abbrev pub symbol_bytes : Symbols → List ℕ
symbol_bytes (Two bytes) = bytes
symbol_bytes (Three bytes) = bytes

-- The letters or digits in two bytes (AOSP: unpackLanguageOrRegion): the bytes themselves, or three that
-- are packed where bit 7 of the first byte is set.
abbrev pub unpacked : ℕ → List ℕ → List ℕ
unpacked base part =
    let b0 = slice_index part 0 in
    let b1 = slice_index part 1 in
    if nat_lt b0 128 then b0 ∷ b1 ∷ []
    else (base + b1 % 32) ∷ (base + (b1 / 32 + b0 % 4 * 8)) ∷ (base + b0 / 4 % 32) ∷ []

-- each part that is there is what a text of the grammar stands for
abbrev pub is_spelled : Locale → Bool
is_spelled l =
    (is_zero l.language || is_some (language_of (unpacked first_letter l.language)))
    && (is_zero l.region || is_some (region_of (unpacked first_digit l.region)))

-- what can be wrong with a locale of which the bytes are known, and no text
abbrev pub locale_faults : Locale → List (Bool × LocaleFault)
locale_faults l =
    (not (is_zero l.script), Malformed)
    ∷ (not (is_spelled l), Malformed)
    ∷ (is_zero l.language && not (is_zero l.region), RegionAlone)
    ∷ []

-- a locale that a text gives, or its first fault
unfoldable pub checked_locale : Locale → Result Locale LocaleFault
checked_locale l = checked_by (locale_faults l) (Ok l)

-- some text stands for it
abbrev pub IsOfSomeText : Locale → Type 0
IsOfSomeText l = (text : List ℕ) × (locale_of text ≡ Ok l)

abbrev pub language_text : List ℕ → List ℕ
language_text language = if is_zero language then [] else unpacked first_letter language

-- a region stands after a dash, also where it is alone
abbrev pub region_text : List ℕ → List ℕ
region_text region = if is_zero region then [] else dash ∷ unpacked first_digit region

-- where a part is not of the grammar, the digits of all four bytes
unfoldable pub plain_text : Locale → List ℕ
plain_text l =
    if is_spelled l then language_text l.language ++ region_text l.region
    else codes "x" ++ encode_lower l.language ++ encode_lower l.region
