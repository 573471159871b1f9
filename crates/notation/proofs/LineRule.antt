-- A device that is read of a line by a rule has a locale of that rule.
use Rattle.std.proofs.Common.{◌≡◌, ℕ, suc, ◌==◌, nat_le, List, [], ◌∷◌, length, codes, is_some, Option, Some, None, option_map, IfSome, Result, Ok, Err, inl, inr, refl, sym, ap, subst, ◌∙◌}
use Rattle.std.specs.Option.{option_or, option_and_then}
use Rattle.std.specs.Result.{result_ok}
use Rattle.std.specs.Str.{is_utf8}
use Rattle.std.proofs.lemmas.Bool.{cases_Bool}
use Rattle.contract_words.specs.Faults.{◌>>=◌}
use Rattle.contract_words.specs.Sequences.{with_front}
use Rattle.contract_words.proofs.FaultSteps.{checked_by-ok}
use Rattle.json_input.specs.Each.{each}
use Rattle.config_record.specs.declared.coord.Coord.{Coord}
use Rattle.config_record.specs.declared.coord.Coord.TheVariants as coords
use Rattle.config_record.specs.declared.fields.DeviceFault.{DeviceFault}
use Rattle.config_record.specs.declared.fields.Fields.{Fields}
use Rattle.config_record.specs.locales.declared.locale.Locale as locale
use Rattle.config_record.specs.locales.declared.locale.LocaleFault.{LocaleFault}
use Rattle.config_record.specs.locales.declared.locale.LocaleFault.TheVariants as of_locale
use Rattle.config_record.specs.locales.Locale.{dash, locale_of_parts, locale_faults, checked_locale}
use Rattle.config_record.specs.locales.LocaleNumber.{locale_number, locale_of_number}
use Rattle.config_record.specs.locales.declared.locale_rule.LocaleRule.{LocaleRule}
use Rattle.config_record.specs.locales.declared.locale_rule.LocaleRule.TheVariants.{LanguageAndRegion, Android}
use Rattle.config_record.specs.locales.LocaleRule.{rule_of}
use Rattle.config_record.specs.locales.Text.{scripted_locale_of, locale_by}
use Rattle.config_record.specs.Coord.{all_coords, number_at}
use Rattle.config_record.specs.Device.{locale_number_in, number_in as number_asked_in, device_with, device_in, device_locale}
use Rattle.config_record.proofs.ChangedNumber.{number_at-set_same}
use Rattle.config_record.proofs.DeviceLemmas.{number_at-given}
use Rattle.notation.specs.declared.qualifier.Qualifier.{Qualifier}
use Rattle.notation.specs.declared.qualifier.Qualifier.TheVariants.{Number, Locale, Size, Version}
use Rattle.notation.specs.declared.said.Said.{Said}
use Rattle.notation.specs.Config.{nothing_said, or_no_device, without_locale, with_locale, device_of_fields, device_said, device_of_config_by}
use Rattle.notation.specs.Cut.{cut_at, behind}
use Rattle.notation.specs.Fault.{FaultOf}
use Rattle.notation.specs.LineLocale.{comma, plus, plain_locale, locale_of_texts, with_region_behind, with_others, with_others_behind, by_sign, one_locale, locale_in}
use Rattle.notation.specs.Parts.{parts_of}
use Rattle.notation.specs.PhoneLocale.{dashed, utf8_locale, phone_locale}
use Rattle.notation.specs.Qualifier.{numbers_in, locales_in, qualifier_in, kind_of}
use Rattle.notation.specs.Said.{with_qualifier, is_given, with_given, with_read, with_part, with_parts}
use Rattle.notation.proofs.NumberSteps.{all_numbers_have}
use Rattle.notation.proofs.RuleSteps.{OfText, OfPhone, OfRead, of_parts, of_phone, of_read, rule_of_read}

-- ---- of a part

plain_read : (language : List ℕ) (region : Option (List ℕ)) → IfSome (plain_locale language region) OfText
plain_read language region = elim (cases_Bool (length language == 0)) [
  | inl none ↦ rw none tt
  | inr some ↦ rw some (by (locale_of_parts language region) refl)
]
  where
    by : (r : Result locale.Locale LocaleFault) → locale_of_parts language region ≡ r → IfSome (result_ok r) OfText
    by (Ok l) read = of_parts language region l read
    by (Err fault) read = tt

phone_read : (text : List ℕ) → IfSome (phone_locale text) OfPhone
unfolding phone_locale utf8_locale locale_by
phone_read text = elim (cases_Bool (nat_le (length text) 12)) [
  | inl short ↦ rw short (elim (cases_Bool (is_utf8 text)) [
    | inl is ↦ rw is (by (scripted_locale_of text) refl)
    | inr other ↦ rw other tt
  ])
  | inr long ↦ rw long tt
]
  where
    by : (r : Result locale.Locale LocaleFault) → scripted_locale_of text ≡ r → IfSome (result_ok r) OfPhone
    by (Ok l) read = of_phone text l read
    by (Err fault) read = tt

texts_read : (rule : LocaleRule) (language : List ℕ) (region : Option (List ℕ)) → IfSome (locale_of_texts rule language region) (OfRead rule)
unfolding locale_of_texts
texts_read LanguageAndRegion language region = plain_read language region
texts_read Android language region = elim (cases_Bool (is_some (plain_locale language region))) [
  | inl some ↦ rw some (phone_read (dashed language region None))
  | inr none ↦ rw none tt
]

region_read : (rule : LocaleRule) (language : List ℕ) (o : Option (List ℕ)) → IfSome (option_and_then (λ region. locale_of_texts rule language (Some region)) o) (OfRead rule)
region_read rule language None = tt
region_read rule language (Some region) = texts_read rule language (Some region)

dash_read : (rule : LocaleRule) (language : List ℕ) (o : Option (List ℕ)) → IfSome (with_region_behind rule language o) (OfRead rule)
dash_read rule language None = texts_read rule language None
dash_read rule language (Some text) = region_read rule language (behind (codes "r") text)

plus_read : (rule : LocaleRule) (language : List ℕ) (o : Option (List ℕ)) → IfSome (with_others_behind rule language o) (OfRead rule)
unfolding with_others
plus_read rule language None = texts_read rule language None
plus_read LanguageAndRegion language (Some others) = plain_read language (Some others)
plus_read Android language (Some others) = phone_read (dashed language (Some (cut_at plus others).0) (cut_at plus others).1)

sign_read : (rule : LocaleRule) (o : Option (List ℕ)) (text : List ℕ) → IfSome (by_sign rule o text) (OfRead rule)
sign_read rule None text = dash_read rule (cut_at dash text).0 (cut_at dash text).1
sign_read rule (Some marked) text = plus_read rule (cut_at plus marked).0 (cut_at plus marked).1

locale_read : (rule : LocaleRule) (part : List ℕ) → IfSome (locale_in rule part) (OfRead rule)
unfolding locale_in one_locale
locale_read rule part = sign_read rule (behind (codes "b+") (cut_at comma part).0) (cut_at comma part).0

-- ---- of a qualifier, and of all that is said

abbrev HasRead : LocaleRule → Qualifier → Type 0
HasRead rule (Locale l) = OfRead rule l
HasRead rule _ = Unit {0}

qualifier_has : (rule : LocaleRule) (part : List ℕ) → IfSome (qualifier_in rule part) (HasRead rule)
unfolding qualifier_in locales_in
qualifier_has rule part =
    either (numbers_in part) (locale_in rule part) (all_numbers_have (HasRead rule) (λ c n. tt) (λ w h. tt) (λ s m. tt) part) (locale_read rule part)
  where
    either : (first : Option Qualifier) (second : Option locale.Locale) → IfSome first (HasRead rule) → IfSome second (OfRead rule) → IfSome (option_or first (option_map Locale second)) (HasRead rule)
    either None None one other = tt
    either None (Some l) one other = other
    either (Some qualifier) second one other = one

with_has : (rule : LocaleRule) (qualifier : Qualifier) (said : Said) → HasRead rule qualifier → OfRead rule said.fields.locale → OfRead rule (with_given qualifier said).fields.locale
unfolding with_given with_qualifier
with_has rule (Number c n) said has before = before
with_has rule (Locale l) said has before = has
with_has rule (Size w h) said has before = before
with_has rule (Version s m) said has before = before

part_has : (rule : LocaleRule) (part : List ℕ) (said next : Said) → OfRead rule said.fields.locale → with_part rule part said ≡ Ok next → OfRead rule next.fields.locale
unfolding with_part
part_has rule part said next before e = by (qualifier_in rule part) (qualifier_has rule part) e
  where
    by : (o : Option Qualifier) → IfSome o (HasRead rule) → with_read part o said ≡ Ok next → OfRead rule next.fields.locale
    by None has f = absurd cc
    by (Some qualifier) has f = elim (cases_Bool (is_given said (kind_of qualifier))) [
      | inl there ↦ let refused = rw there at f in absurd cc
      | inr free ↦
          let whole : ◌≡◌ {A = Result Said FaultOf} (Ok (with_given qualifier said)) (Ok next) = rw free at f in
          let same : with_given qualifier said ≡ next = cc in
          subst (λ (s : Said). OfRead rule s.fields.locale) same (with_has rule qualifier said has before)
    ]

parts_have : (rule : LocaleRule) (parts : List (List ℕ)) (said last : Said) → OfRead rule said.fields.locale → with_parts rule parts said ≡ Ok last → OfRead rule last.fields.locale
unfolding with_parts
parts_have rule [] said last before e = let same : said ≡ last = cc in subst (λ (s : Said). OfRead rule s.fields.locale) same before
parts_have rule (part ∷ parts) said last before e = by (with_part rule part said) refl e (λ next has f. parts_have rule parts next last has f)
  where
    by : (r : Result Said FaultOf) → with_part rule part said ≡ r → (r >>= with_parts rule parts) ≡ Ok last
        → ((next : Said) → OfRead rule next.fields.locale → with_parts rule parts next ≡ Ok last → OfRead rule last.fields.locale) → OfRead rule last.fields.locale
    by (Ok next) is f others = others next (part_has rule part said next before is) f
    by (Err fault) is f others = absurd cc

nothing_has : (rule : LocaleRule) → OfRead rule (nothing_said rule).fields.locale
unfolding nothing_said locale_by scripted_locale_of
nothing_has LanguageAndRegion = of_read LanguageAndRegion [] _ refl
nothing_has Android = of_read Android [] _ refl

-- ---- of the device

same_number : (l : ℕ) (d : List ℕ) (rule : LocaleRule) → l ≡ number_at d coords.Locale → rule_of (locale_of_number l) ≡ rule → rule_of (device_locale d) ≡ rule
same_number l d rule same is = subst (λ (n : ℕ). rule_of (locale_of_number n) ≡ rule) same is

plain_device : (fields : Fields) (d : List ℕ) → OfText fields.locale → device_in fields ≡ Ok d → rule_of (device_locale d) ≡ LanguageAndRegion
unfolding device_with number_asked_in checked_locale
plain_device fields d of e = by (checked_locale fields.locale) refl (number_at-given (number_asked_in fields.numbers (locale_number_in (checked_locale fields.locale))) d coords.Locale e)
  where
    by : (r : Result locale.Locale LocaleFault) → checked_locale fields.locale ≡ r → locale_number_in r ≡ Ok (number_at d coords.Locale) → rule_of (device_locale d) ≡ LanguageAndRegion
    by (Ok l) checked f =
        let own : ◌≡◌ {A = Result locale.Locale LocaleFault} (Ok fields.locale) (Ok l) = (checked_by-ok (locale_faults fields.locale) (Ok fields.locale) l checked).1 in
        let same : fields.locale ≡ l = cc in
        let number : locale_number l ≡ number_at d coords.Locale = cc in
        same_number (locale_number l) d LanguageAndRegion number (rule_of_read LanguageAndRegion l (subst (λ (k : locale.Locale). OfText k) same of))
    by (Err of_locale.RegionAlone) checked f = absurd cc
    by (Err of_locale.Malformed) checked f = absurd cc

each_count : (f : Coord → Result ℕ DeviceFault) (cs : List Coord) (ns : List ℕ) → each f cs ≡ Ok ns → length ns ≡ length cs
unfolding each
each_count f [] ns e = let same : [] ≡ ns = cc in ap (λ (t : List ℕ). length t) (sym same)
each_count f (c ∷ cs) ns e = by (f c) (each f cs) e (λ others is. each_count f cs others is)
  where
    by : (r : Result ℕ DeviceFault) (o : Result (List ℕ) DeviceFault) → (r >>= (λ n. with_front (n ∷ []) o)) ≡ Ok ns → ((others : List ℕ) → o ≡ Ok others → length others ≡ length cs) → length ns ≡ suc (length cs)
    by (Ok n) (Ok others) f count =
        let same : n ∷ others ≡ ns = cc in
        ap (λ (t : List ℕ). length t) (sym same) ∙ ap suc (count others refl)
    by (Ok n) (Err fault) f count = absurd cc
    by (Err fault) o f count = absurd cc

device_count : (fields : Fields) (d : List ℕ) → device_in fields ≡ Ok d → length d ≡ 25
unfolding device_with all_coords
device_count fields d e = each_count _ all_coords d e

fields_rule : (rule : LocaleRule) (fields : Fields) (d : List ℕ) → OfRead rule fields.locale → device_of_fields rule fields ≡ Ok d → rule_of (device_locale d) ≡ rule
unfolding device_of_fields
fields_rule LanguageAndRegion fields d of e = plain_device fields d of e
fields_rule Android fields d of e = by (device_in (without_locale fields)) refl e
  where
    by : (r : Result (List ℕ) DeviceFault) → device_in (without_locale fields) ≡ r → (r >>= λ device. Ok (with_locale fields.locale device)) ≡ Ok d → rule_of (device_locale d) ≡ Android
    by (Ok device) is f =
        let same : with_locale fields.locale device ≡ d = cc in
        let number : number_at (with_locale fields.locale device) coords.Locale ≡ locale_number fields.locale =
        number_at-set_same device coords.Locale (locale_number fields.locale) (device_count (without_locale fields) device is) in
        subst (λ (k : List ℕ). rule_of (device_locale k) ≡ Android) same (same_number (locale_number fields.locale) (with_locale fields.locale device) Android (sym number) (rule_of_read Android fields.locale of))
    by (Err fault) is f = absurd cc

pub line-rule : (rule : LocaleRule) (line d : List ℕ) → device_of_config_by rule line ≡ Ok d → rule_of (device_locale d) ≡ rule
unfolding device_of_config_by device_said
line-rule rule line d e = by (with_parts rule (parts_of line) (nothing_said rule)) refl e
  where
    of_fields : (said : Said) → OfRead rule said.fields.locale → (r : Result (List ℕ) DeviceFault) → device_of_fields rule said.fields ≡ r → or_no_device r ≡ Ok d → rule_of (device_locale d) ≡ rule
    of_fields said of (Ok device) is f =
        let same : device ≡ d = cc in
        subst (λ (k : List ℕ). rule_of (device_locale k) ≡ rule) same (fields_rule rule said.fields device of is)
    of_fields said of (Err fault) is f = absurd cc

    by : (r : Result Said FaultOf) → with_parts rule (parts_of line) (nothing_said rule) ≡ r → (r >>= device_said rule) ≡ Ok d → rule_of (device_locale d) ≡ rule
    by (Ok said) is f = of_fields said (parts_have rule (parts_of line) (nothing_said rule) said (nothing_has rule) is) (device_of_fields rule said.fields) refl f
    by (Err fault) is f = absurd cc
