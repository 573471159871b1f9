-- What is read for a phone is given by a text.
use Rattle.std.proofs.Common.{◌≡◌, inl, inr, ap, ◌∙◌, ℕ, List, Option, Some, None, IfSome, refl, sym, subst}
use Rattle.std.specs.Str.{IsUtf8, is_utf8}
use Rattle.std.specs.Result.{result_ok}
use Rattle.std.proofs.lemmas.Bool.{cases_Bool}
use Rattle.std.proofs.lemmas.Str.{IsUtf8-from_is_utf8, is_utf8-from_IsUtf8}
use Rattle.config_record.specs.locales.declared.locale.TheConstants.Locale.{NONE}
use Rattle.config_record.specs.locales.Locale.{plain_text}
use Rattle.config_record.specs.locales.declared.locale_rule.LocaleRule.{LocaleRule}
use Rattle.config_record.specs.locales.declared.locale_rule.LocaleRule.TheVariants.{Android}
use Rattle.config_record.specs.locales.declared.locale.Locale as locale
use Rattle.notation.specs.PhoneLocale.{utf8_locale}
use Rattle.config_record.specs.locales.Text.{locale_by, locale_text, IsGiven}
use Rattle.notation.specs.declared.qualifier.Qualifier.{Qualifier}
use Rattle.notation.specs.declared.qualifier.Qualifier.TheVariants.{Number, Locale, Size, Version}
use Rattle.notation.specs.declared.said.Said.{Said}
use Rattle.notation.specs.LineLocale.{IsGivenFor}
use Rattle.notation.specs.Qualifier.{numbers_in, HasGivenFor}
use Rattle.notation.specs.Said.{with_qualifier, with_given}
use Rattle.notation.proofs.NumberSteps.{all_numbers_have}

pub none_given : IsGiven NONE
unfolding locale_by locale_text plain_text
none_given = refl

-- ---- what gives numbers has no locale

numbers_have_none : (rule : LocaleRule) (part : List ℕ) → IfSome (numbers_in part) (HasGivenFor rule)
numbers_have_none rule part = all_numbers_have (HasGivenFor rule) (λ c n. tt) (λ w h. tt) (λ s m. tt) part

pub no_locale_in : (rule : LocaleRule) (part : List ℕ) (qualifier : Qualifier) → Some qualifier ≡ numbers_in part → HasGivenFor rule qualifier
no_locale_in rule part qualifier is = subst (λ (o : Option Qualifier). IfSome o (HasGivenFor rule)) (sym is) (numbers_have_none rule part)

-- ---- fields keep their locale, or have that of the qualifier

pub with_given_for : (rule : LocaleRule) (qualifier : Qualifier) (said : Said) → HasGivenFor rule qualifier → IsGivenFor rule said.fields.locale
    → IsGivenFor rule (with_given qualifier said).fields.locale
unfolding with_given with_qualifier
with_given_for rule (Number coord number) said given before = before
with_given_for rule (Locale locale) said given before = given
with_given_for rule (Size width height) said given before = before
with_given_for rule (Version sdk minor) said given before = before

-- ---- a text is UTF-8, or it gives no locale

pub of_utf8 : (bytes text : List ℕ) (o : Option locale.Locale) → IsUtf8 bytes → text ≡ bytes → o ≡ result_ok (locale_by Android text) → o ≡ utf8_locale bytes
unfolding utf8_locale
of_utf8 bytes text o is same value = rw (is_utf8-from_IsUtf8 bytes is) (value ∙ ap (λ (t : List ℕ). result_ok (locale_by Android t)) same)

pub of_no_utf8 : (bytes : List ℕ) → ¬ (IsUtf8 bytes) → None ≡ utf8_locale bytes
unfolding utf8_locale
of_no_utf8 bytes other = elim (cases_Bool (is_utf8 bytes)) [
  | inl is ↦ absurd (other (IsUtf8-from_is_utf8 bytes is))
  | inr none ↦ rw none refl
]
