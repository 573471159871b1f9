-- What is known of a locale that a text gives, by either rule.
use Rattle.std.proofs.Common.{◌≡◌, ℕ, ◌+◌, ◌*◌, ◌/◌, ◌%◌, ◌^◌, ◌<◌, ◌≤◌, true, false, List, [], ◌∷◌, length, drop, Option, Some, None, Result, Ok, Err, IfOk, refl, sym, ap, subst, ◌∙◌, arith, eqb-true}
use Rattle.std.specs.Option.{option_map_or}
use Rattle.std.specs.Int.{w32, to_be_bytes}
use Rattle.std.proofs.lemmas.Bool.{and_parts}
use Rattle.locales.specs.contract_words.Faults.{◌>>=◌}
use Rattle.locales.specs.declared.locale.Locale.{Locale}
use Rattle.locales.specs.declared.locale.LocaleFault.{LocaleFault}
use Rattle.locales.specs.Zero.{is_zero}
use Rattle.locales.specs.LocaleNumber.{locale_of_number}
use Rattle.locales.specs.Locale.{no_part, locale_of, checked_locale, plain_text}
use Rattle.locales.proofs.LocaleLemmas.{of_languages, part_of-stands, locale_of-gives}
use Rattle.locales.proofs.LocaleGiven.{no_region}
use Rattle.locales.specs.TextNumber.{number_of}
use Rattle.locales.specs.Facts.{likely_of}
use Rattle.locales.specs.declared.locale_rule.LocaleRule.{LocaleRule}
use Rattle.locales.specs.declared.locale_rule.LocaleRule.TheVariants.{LanguageAndRegion, Android}
use Rattle.locales.specs.LocaleRule.{rule_of}
use Rattle.locales.specs.Words.{number_of_script}
use Rattle.locales.specs.Text.{written_script, likely_number, language_part, behind_language, in_likely_script, with_script, with_likely_script, scripted_locale_of, locale_by, locale_text, IsGiven, IsGivenBy}
use Rattle.locales.proofs.TextLemmas.{no_dash_before, behind_script}
use Rattle.locales.proofs.ReadBack.{found_in, language_in, plain_given, no_script_of, zero_number}

given_by : (rule : LocaleRule) (l : Locale) → rule_of l ≡ rule → IsGivenBy rule l → IsGiven l
given_by rule l is given = subst (λ (r : LocaleRule). IsGivenBy r l) (sym is) given

pub is_given : (rule : LocaleRule) (r : Result Locale LocaleFault) → IfOk r (λ l. rule_of l ≡ rule) → IfOk r (λ l. IsGivenBy rule l) → IfOk r (λ l. IsGiven l)
is_given rule (Ok l) is given = given_by rule l is given
is_given rule (Err fault) is given = tt

-- one that is given by language and region
pub plain_is_given : (r : Result Locale LocaleFault) → IfOk r (λ l. locale_of (plain_text l) ≡ Ok l) → IfOk r (λ l. IsGiven l)
plain_is_given (Ok l) read = let both = plain_given (plain_text l) l read in given_by LanguageAndRegion l both.0 both.1
plain_is_given (Err fault) read = tt

-- ---- without a language it has no region, and no script is known

record IsSilent (l : Locale) : Type 0 where
  region : l.region ≡ no_part
  script : number_of_script l.script ≤ 1

-- what is known of the bytes of a locale without a language
record NoLanguage (l : Locale) : Type 0 where
  none : l.language ≡ no_part
  first : ℕ
  second : ℕ
  region : l.region ≡ first ∷ second ∷ []
  four : length l.script ≡ 4

zero_region : (l m : Locale) → NoLanguage l → checked_locale m ≡ Ok m → m.language ≡ l.language → m.region ≡ l.region → l.region ≡ no_part
zero_region l m bare passes language region =
    let zero : is_zero (bare.first ∷ bare.second ∷ []) ≡ true = ap is_zero (sym (region ∙ bare.region)) ∙ no_region m passes (ap is_zero (language ∙ bare.none)) in
    let parts = and_parts _ _ zero in
    let first = eqb-true bare.first 0 parts.0 in
    let second = eqb-true bare.second 0 (and_parts _ _ parts.1).0 in
    bare.region ∙ rw (first, second) refl

none_likely : (m : Locale) → m.language ≡ no_part → m.region ≡ no_part → likely_number m ≡ 1
unfolding likely_of number_of
none_likely m language region = rw (language, region) refl

likely_silent : (l : Locale) (r : Result Locale LocaleFault) (text : List ℕ) → NoLanguage l → locale_of text ≡ r → (r >>= λ m. Ok (in_likely_script m)) ≡ Ok l → IsSilent l
unfolding in_likely_script
likely_silent l (Ok m) text bare read e =
    let same : in_likely_script m ≡ l = cc in
    let language = ap (λ (k : Locale). k.language) same in
    let region = ap (λ (k : Locale). k.region) same in
    let zero = zero_region l m bare (locale_of-gives text m read).passes language region in
    let number = none_likely m (language ∙ bare.none) (region ∙ zero) in
    let script : to_be_bytes w32 (likely_number m) ≡ l.script = ap (λ (k : Locale). k.script) same in
    record { region = zero; script = rw (← script, number) (omega arith) }
likely_silent l (Err fault) text bare read e = absurd cc

no_part_is_zero : (part : List ℕ) → part ≡ no_part → is_zero part ≡ false → ⊥
no_part_is_zero part none some = let zero = rw none at some in cc

scripted_silent : (text : List ℕ) (l : Locale) → NoLanguage l → scripted_locale_of text ≡ Ok l → IsSilent l
unfolding scripted_locale_of
scripted_silent text l bare e = by_script (written_script (language_part (behind_language text))) refl e
  where
    by_script : (o : Option (List ℕ)) → written_script (language_part (behind_language text)) ≡ o → option_map_or (with_script text) o (with_likely_script text) ≡ Ok l → IsSilent l
    by_script None is f = likely_silent l (locale_of text) text bare refl f
    by_script (Some script) is f =
        let found = found_in text script l f in
        let read = language_in (language_part text) (drop 4 (behind_language text)) found.plain found.given (no_dash_before text) (behind_script (behind_language text) script is) found.rest in
        let some = (part_of-stands _ _ _ of_languages (language_part text) found.plain.language read).not_zero in
        let none : found.plain.language ≡ no_part = ap (λ (k : Locale). k.language) found.made ∙ bare.none in
        absurd (no_part_is_zero found.plain.language none some)

silent_by_rule : (rule : LocaleRule) (l : Locale) → NoLanguage l → IsGivenBy rule l → IsSilent l
unfolding locale_by
silent_by_rule LanguageAndRegion l bare given =
    let passes = (locale_of-gives (locale_text l) l given).passes in
    record { region = zero_region l l bare passes refl refl; script = omega (arith, zero_number l.script bare.four (no_script_of l passes)) }
silent_by_rule Android l bare given = scripted_silent (locale_text l) l bare given

-- of its number
pub no_language : (n : ℕ) → IsGiven (locale_of_number n) → n < 65536 * 2 ^ 32 → n ≤ 1
unfolding locale_of_number
no_language n given low =
    let first : n / 72057594037927936 % 256 ≡ 0 = omega arith in
    let second : n / 281474976710656 % 256 ≡ 0 = omega arith in
    let l = locale_of_number n in
    let silent = silent_by_rule (rule_of l) l (record { none = rw (first, second) refl; first = n / 1099511627776 % 256; second = n / 4294967296 % 256; region = refl; four = refl }) given in
    let third : n / 1099511627776 % 256 ≡ 0 = cc in
    let fourth : n / 4294967296 % 256 ≡ 0 = cc in
    let script : n / 16777216 % 256 * 16777216 + n / 65536 % 256 * 65536 + n / 256 % 256 * 256 + n % 256 ≤ 1 = omega (arith, silent.script) in
    omega arith
