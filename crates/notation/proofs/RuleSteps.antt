-- A device that is read of a JSON text by a rule has a locale of that rule.
use Rattle.std.proofs.Common.{◌≡◌, ℕ, ◌+◌, ◌*◌, ◌/◌, ◌%◌, ◌^◌, ◌==◌, ◌&&◌, ◌||◌, not, nat_le, nat_lt, Bool, true, false, cond, if◌then◌else◌, List, [], ◌∷◌, ◌++◌, map, length, find, take, drop, position, unwrap_or, Option, Some, None, is_some, option_map, IfSome, ok_or, Result, Ok, Err, inl, inr, refl, sym, ap, subst, ◌∙◌, arith}
use Rattle.std.specs.Int.{w64, from_be_bytes}
use Rattle.std.specs.List.{list_all}
use Rattle.std.specs.Option.{option_or, option_map_or}
use Rattle.std.proofs.lemmas.Bool.{and_parts, cases_Bool, leb-true, ltb-true}
use Rattle.contract_words.specs.Faults.{◌>>=◌}
use Rattle.contract_words.proofs.FaultSteps.{checked_by-ok}
use Rattle.serde_json.specs.Data.{Data}
use Rattle.json_input.specs.Json.{value_of}
use Rattle.json_input.specs.Shape.{has_only}
use Rattle.config_record.specs.declared.coord.Coord.TheVariants as coords
use Rattle.config_record.specs.declared.fields.DeviceFault.{DeviceFault}
use Rattle.config_record.specs.declared.fields.DeviceFault.TheVariants.{Syntax}
use Rattle.config_record.specs.locales.declared.locale.Locale.{Locale}
use Rattle.config_record.specs.locales.declared.locale.LocaleFault.{LocaleFault}
use Rattle.config_record.specs.locales.declared.locale.LocaleFault.TheVariants as of_locale
use Rattle.config_record.specs.locales.declared.locale.LocaleFault.TheVariants.{Malformed}
use Rattle.config_record.specs.locales.Locale.{first_letter, first_digit, is_small_letter, is_capital_letter, is_digit, part_of, language_of, region_of, no_part, no_script, without_script, with_region_faults, locale_of_parts, cut_at, locale_of}
use Rattle.config_record.specs.locales.LocaleNumber.{locale_number, locale_of_number}
use Rattle.config_record.specs.locales.Zero.{is_zero}
use Rattle.config_record.specs.locales.declared.locale_rule.LocaleRule.{LocaleRule}
use Rattle.config_record.specs.locales.declared.locale_rule.LocaleRule.TheVariants.{LanguageAndRegion, Android}
use Rattle.config_record.specs.locales.Facts as facts
use Rattle.config_record.specs.locales.Facts.{likely_of}
use Rattle.config_record.specs.locales.LikelyScripts.{likely_scripts}
use Rattle.config_record.specs.locales.Lines.{script_in}
use Rattle.config_record.specs.locales.TextNumber.{number_of}
use Rattle.config_record.specs.locales.LocaleRule.{rule_of}
use Rattle.config_record.specs.locales.Text.{is_dash, written_script, language_part, behind_language, text_without_script, likely_number, in_script, in_likely_script, with_script, with_likely_script, scripted_locale_of, locale_by}
use Rattle.config_record.specs.locales.Words.{unknown_script}
use Rattle.config_record.specs.Coord.{all_coords, name_of, number_at}
use Rattle.config_record.specs.Device.{locale_number_in, number_in, device_with, device_locale}
use Rattle.config_record.specs.DeviceJson.{numbers_asked, locale_asked, device_in_value, device_in_json_by}
use Rattle.config_record.proofs.DeviceLemmas.{number_at-given}
use Rattle.config_record.proofs.locales.ReadBack.{found_in, zero_number}
use Rattle.notation.proofs.JsonBack.{device_of, read_of}

-- ---- the likely script is a number of 32 bits, and not 0

abbrev fits : ℕ → Bool
fits n = nat_lt 0 n && nat_lt n (2 ^ 32)

found_fits : {X : Type 0} (number : X → ℕ) (p : X → Bool) (xs : List X) → list_all (λ x. fits (number x)) xs ≡ true → IfSome (option_map number (find p xs)) (λ n. fits n ≡ true)
found_fits number p [] all = tt
found_fits number p (x ∷ xs) all =
    let parts = and_parts (fits (number x)) (list_all (λ y. fits (number y)) xs) all in
    elim (cases_Bool (p x)) [
      | inl here ↦ rw here parts.0
      | inr other ↦ rw other (found_fits number p xs parts.1)
    ]

script_fits : (locale : ℕ) → IfSome (script_in likely_scripts locale) (λ n. fits n ≡ true)
unfolding likely_scripts
script_fits locale = found_fits (λ line. line.script) (λ line. line.locale == locale) likely_scripts refl

either_fits : (none : Bool) (first second : Option ℕ) → IfSome first (λ n. fits n ≡ true) → IfSome second (λ n. fits n ≡ true)
    → fits (unwrap_or (if none then None else option_or first second) unknown_script) ≡ true
either_fits true first second one other = refl
either_fits false None None one other = refl
either_fits false None (Some n) one other = other
either_fits false (Some n) second one other = one

likely_fits : (l : Locale) → fits (likely_number l) ≡ true
unfolding likely_of
likely_fits l = either_fits (facts.language_of (number_of l) == 0) _ _ (script_fits (number_of l)) (script_fits (facts.language_of (number_of l)))

-- ---- what is read of a text

record IsTwo (part : List ℕ) : Type 0 where
  first : ℕ
  second : ℕ
  same : part ≡ first ∷ second ∷ []

no_part-two : IsTwo no_part
no_part-two = record { first = 0; second = 0; same = refl }

chosen-two : (c : Bool) (a b : ℕ) → IsTwo (unwrap_or (cond c (Some (a ∷ b ∷ [])) None) no_part)
chosen-two true a b = record { first = a; second = b; same = refl }
chosen-two false a b = no_part-two

part-two : (two three : ℕ → Bool) (base : ℕ) (symbols : List ℕ) → IsTwo (unwrap_or (part_of two three base symbols) no_part)
part-two two three base [] = no_part-two
part-two two three base (a ∷ []) = no_part-two
part-two two three base (a ∷ b ∷ []) = chosen-two (two a && two b) a b
part-two two three base (a ∷ b ∷ c ∷ []) = chosen-two (three a && three b && three c) _ _
part-two two three base (a ∷ b ∷ c ∷ d ∷ symbols) = no_part-two

language-two : (symbols : List ℕ) → IsTwo (unwrap_or (language_of symbols) no_part)
language-two symbols = part-two is_small_letter is_small_letter first_letter symbols

region-two : (symbols : List ℕ) → IsTwo (unwrap_or (region_of symbols) no_part)
region-two symbols = part-two is_capital_letter is_digit first_digit symbols

pub record OfText (l : Locale) : Type 0 where
  language : IsTwo l.language
  region : IsTwo l.region
  none : l.script ≡ no_script

made_of : (language region : List ℕ) (l : Locale) → IsTwo language → IsTwo region → ◌≡◌ {A = Result Locale LocaleFault} (Ok (without_script language region)) (Ok l) → OfText l
made_of language region l one two e =
    let same : without_script language region ≡ l = cc in
    subst (λ (m : Locale). OfText m) same (record { language = one; region = two; none = refl })

pub of_parts : (language : List ℕ) (region : Option (List ℕ)) (l : Locale) → locale_of_parts language region ≡ Ok l → OfText l
of_parts text None l e =
    let language = unwrap_or (language_of text) no_part in
    made_of language no_part l (language-two text) no_part-two (checked_by-ok ((not (length text == 0 || is_some (language_of text)), Malformed) ∷ []) (Ok (without_script language no_part)) l e).1
of_parts before (Some after) l e =
    let language = unwrap_or (language_of before) no_part in
    let region = unwrap_or (region_of after) no_part in
    made_of language region l (language-two before) (region-two after) (checked_by-ok (with_region_faults before after) (Ok (without_script language region)) l e).1

pub of_text : (text : List ℕ) (l : Locale) → locale_of text ≡ Ok l → OfText l
of_text text l e = by (position is_dash text) e
  where
    by : (o : Option ℕ) → cut_at text o ≡ Ok l → OfText l
    by None f = of_parts text None l f
    by (Some place) f = of_parts (take place text) (Some (drop (place + 1) text)) l f

-- the number of four bytes, in 32 bits
abbrev low : ℕ → ℕ → ℕ → ℕ → ℕ
low e f g h = (e * 16777216 + f * 65536 + g * 256 + h) % 4294967296

pub record OfPhone (l : Locale) : Type 0 where
  language : IsTwo l.language
  region : IsTwo l.region
  e : ℕ
  f : ℕ
  g : ℕ
  h : ℕ
  script : l.script ≡ e ∷ f ∷ g ∷ h ∷ []
  some : low e f g h ≡ 0 → ⊥

likely_read : (m : Locale) → OfText m → OfPhone (in_likely_script m)
unfolding in_likely_script
likely_read m of =
    let k = likely_number m in
    let parts = and_parts (nat_lt 0 k) (nat_lt k (2 ^ 32)) (likely_fits m) in
    let above = ltb-true 0 k parts.0 in
    let below = ltb-true k (2 ^ 32) parts.1 in
    record {
      language = of.language;
      region = of.region;
      e = k / 16777216 % 256;
      f = k / 65536 % 256;
      g = k / 256 % 256;
      h = k % 256;
      script = refl;
      some = λ zero. omega arith;
    }

record Letters (script : List ℕ) : Type 0 where
  a : ℕ
  b : ℕ
  c : ℕ
  d : ℕ
  same : script ≡ a ∷ b ∷ c ∷ d ∷ []
  some : low a b c d ≡ 0 → ⊥

letters_in : (bytes script : List ℕ) → written_script bytes ≡ Some script → Letters script
letters_in [] script e = absurd cc
letters_in (a ∷ []) script e = absurd cc
letters_in (a ∷ b ∷ []) script e = absurd cc
letters_in (a ∷ b ∷ c ∷ []) script e = absurd cc
letters_in (a ∷ b ∷ c ∷ d ∷ []) script e =
    elim (cases_Bool (is_capital_letter a && is_small_letter b && is_small_letter c && is_small_letter d)) [
      | inl are ↦
          let found = rw are at e in
          let all = and_parts (is_capital_letter a && is_small_letter b && is_small_letter c) (is_small_letter d) are in
          let three = and_parts (is_capital_letter a && is_small_letter b) (is_small_letter c) all.0 in
          let two = and_parts (is_capital_letter a) (is_small_letter b) three.0 in
          let first = and_parts (nat_le 65 a) (nat_le a 90) two.0 in
          let second = and_parts (nat_le 97 b) (nat_le b 122) two.1 in
          let third = and_parts (nat_le 97 c) (nat_le c 122) three.1 in
          let fourth = and_parts (nat_le 97 d) (nat_le d 122) all.1 in
          let least = leb-true 65 a first.0 in
          let of_a = leb-true a 90 first.1 in
          let of_b = leb-true b 122 second.1 in
          let of_c = leb-true c 122 third.1 in
          let of_d = leb-true d 122 fourth.1 in
          record { a = a; b = b; c = c; d = d; same = cc; some = λ zero. omega arith }
      | inr other ↦ let none = rw other at e in absurd cc
    ]
letters_in (a ∷ b ∷ c ∷ d ∷ f ∷ bytes) script e = absurd cc

given_read : (script : List ℕ) (m : Locale) → OfText m → Letters script → OfPhone (in_script script m)
given_read script m of letters = record {
  language = of.language;
  region = of.region;
  e = letters.a;
  f = letters.b;
  g = letters.c;
  h = letters.d;
  script = letters.same;
  some = letters.some;
}

one_locale : (m l : Locale) → ◌≡◌ {A = Result Locale LocaleFault} (Ok m) (Ok l) → m ≡ l
one_locale m l e = cc

no_fault : (fault : LocaleFault) (l : Locale) → ◌≡◌ {A = Result Locale LocaleFault} (Err fault) (Ok l) → ⊥
no_fault fault l e = cc

pub of_phone : (text : List ℕ) (l : Locale) → scripted_locale_of text ≡ Ok l → OfPhone l
unfolding scripted_locale_of
of_phone text l e = by (written_script (language_part (behind_language text))) refl e
  where
    likely : (r : Result Locale LocaleFault) → locale_of text ≡ r → (r >>= λ m. Ok (in_likely_script m)) ≡ Ok l → OfPhone l
    likely (Ok m) read f = subst (λ (k : Locale). OfPhone k) (one_locale (in_likely_script m) l f) (likely_read m (of_text text m read))
    likely (Err fault) read f = absurd (no_fault fault l f)

    by : (o : Option (List ℕ)) → written_script (language_part (behind_language text)) ≡ o → option_map_or (with_script text) o (with_likely_script text) ≡ Ok l → OfPhone l
    by None is f = likely (locale_of text) refl f
    by (Some script) is f =
        let found = found_in text script l f in
        subst (λ (k : Locale). OfPhone k) found.made (given_read script found.plain (of_text (text_without_script text) found.plain found.rest) (letters_in (language_part (behind_language text)) script is))

-- ---- the rule of a number

low_of : (a b c d e f g h : ℕ) → from_be_bytes w64 (a ∷ b ∷ c ∷ d ∷ e ∷ f ∷ g ∷ h ∷ []) % 4294967296 ≡ low e f g h
low_of a b c d e f g h = omega arith

number_low : (l : Locale) (e f g h : ℕ) → IsTwo l.language → IsTwo l.region → l.script ≡ e ∷ f ∷ g ∷ h ∷ [] → locale_number l % 4294967296 ≡ low e f g h
unfolding locale_number
number_low l e f g h language region script =
    ap (λ (bytes : List ℕ). from_be_bytes w64 ((bytes ++ l.region) ++ l.script) % 4294967296) language.same
    ∙ ap (λ (bytes : List ℕ). from_be_bytes w64 (((language.first ∷ language.second ∷ []) ++ bytes) ++ l.script) % 4294967296) region.same
    ∙ ap (λ (bytes : List ℕ). from_be_bytes w64 ((language.first ∷ language.second ∷ region.first ∷ region.second ∷ []) ++ bytes) % 4294967296) script
    ∙ low_of language.first language.second region.first region.second e f g h

zeros : (n : ℕ) → n % 4294967296 ≡ 0 → rule_of (locale_of_number n) ≡ LanguageAndRegion
unfolding locale_of_number
zeros n none =
    let first : n / 16777216 % 256 ≡ 0 = omega arith in
    let second : n / 65536 % 256 ≡ 0 = omega arith in
    let third : n / 256 % 256 ≡ 0 = omega arith in
    let fourth : n % 256 ≡ 0 = omega arith in
    rw (first, second, third, fourth) refl

not_zeros : (n : ℕ) → (n % 4294967296 ≡ 0 → ⊥) → rule_of (locale_of_number n) ≡ Android
unfolding locale_of_number
not_zeros n some = elim (cases_Bool (is_zero (locale_of_number n).script)) [
  | inl zero ↦
      let number = zero_number (locale_of_number n).script refl zero in
      absurd (some (omega (arith, number)))
  | inr other ↦ rw other refl
]

-- of a locale that is read by a rule
abbrev pub OfRead : LocaleRule → Locale → Type 0
OfRead LanguageAndRegion l = OfText l
OfRead Android l = OfPhone l

pub rule_of_read : (rule : LocaleRule) (l : Locale) → OfRead rule l → rule_of (locale_of_number (locale_number l)) ≡ rule
rule_of_read LanguageAndRegion l of = zeros (locale_number l) (number_low l 0 0 0 0 of.language of.region of.none)
rule_of_read Android l of = not_zeros (locale_number l) (λ none. of.some (sym (number_low l of.e of.f of.g of.h of.language of.region of.script) ∙ none))

pub of_read : (rule : LocaleRule) (text : List ℕ) (l : Locale) → locale_by rule text ≡ Ok l → OfRead rule l
unfolding locale_by
of_read LanguageAndRegion text l e = of_text text l e
of_read Android text l e = of_phone text l e

-- ---- of a device

of_device : (rule : LocaleRule) (text numbers d : List ℕ) → device_with numbers (locale_by rule text) ≡ Ok d → rule_of (device_locale d) ≡ rule
unfolding device_with number_in
of_device rule text numbers d e = by (locale_by rule text) refl (number_at-given (number_in numbers (locale_number_in (locale_by rule text))) d coords.Locale e)
  where
    by : (r : Result Locale LocaleFault) → locale_by rule text ≡ r → locale_number_in r ≡ Ok (number_at d coords.Locale) → rule_of (device_locale d) ≡ rule
    by (Ok l) read f =
        let same : locale_number l ≡ number_at d coords.Locale = cc in
        subst (λ (n : ℕ). rule_of (locale_of_number n) ≡ rule) same (rule_of_read rule l (of_read rule text l read))
    by (Err of_locale.RegionAlone) read f = absurd cc
    by (Err of_locale.Malformed) read f = absurd cc

of_value : (rule : LocaleRule) (only : Bool) (numbers locale : Result (List ℕ) DeviceFault) (d : List ℕ) → device_of rule only numbers locale ≡ Ok d → rule_of (device_locale d) ≡ rule
of_value rule false numbers locale d e = absurd cc
of_value rule true (Err fault) locale d e = absurd cc
of_value rule true (Ok numbers) (Err fault) d e = absurd cc
of_value rule true (Ok numbers) (Ok text) d e = of_device rule text numbers d e

pub json-rule : (rule : LocaleRule) (json d : List ℕ) → device_in_json_by rule json ≡ Ok d → rule_of (device_locale d) ≡ rule
json-rule rule json d e = by (value_of json) e
  where
    by : (o : Option Data) → (ok_or o Syntax >>= device_in_value rule) ≡ Ok d → rule_of (device_locale d) ≡ rule
    by None f = absurd cc
    by (Some value) f = of_value rule (has_only (map name_of all_coords) value) (numbers_asked value) (locale_asked value) d (sym (read_of rule value) ∙ f)
