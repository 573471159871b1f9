-- What a rule of locales says of a record that says nothing, and of a record beside itself.
use Rattle.std.proofs.Common.{◌≡◌, ℕ, ◌==◌, Bool, true, false, if◌then◌else◌, refl, sym, ◌∙◌, arith}
use Rattle.std.proofs.lemmas.Bool.Decides.{nat_tests}
use Rattle.config_record.specs.locales.Compared.{record_locale_of, device_locale_of}
use Rattle.config_record.specs.locales.Suits.{suits_of}
use Rattle.config_record.specs.locales.Better.{is_better_of}
use Rattle.config_record.proofs.locales.BetterLaws.{not_itself}
use Rattle.config_match.specs.declared.answer.Answer.{Answer}
use Rattle.config_match.specs.declared.answer.Answer.TheVariants.{Yes, Pass}
use Rattle.config_match.specs.Condition.{locale_suits}
use Rattle.config_match.specs.Comparisons.{plain_answer, phone_answer, locale_answer}
use Rattle.config_match.specs.Locale.{is_by_language_and_region}

either : {X : Type 0} (c : Bool) (x y z : X) → x ≡ z → y ≡ z → (if c then x else y) ≡ z
either true x y z one other = one
either false x y z one other = other

phone_suits-nothing : (d : ℕ) → suits_of (record_locale_of 0) (device_locale_of d) ≡ true
unfolding suits_of record_locale_of
phone_suits-nothing d = refl

pub locale_suits-nothing : (d : ℕ) → locale_suits 0 d ≡ true
unfolding locale_suits
locale_suits-nothing d = either (is_by_language_and_region d) true _ true refl (phone_suits-nothing d)

same-rank : (n : ℕ) → (n == n) ≡ true
same-rank n = grind (arith, nat_tests)

pub locale_answer-same : (a d : ℕ) → locale_answer a a d ≡ Pass
unfolding locale_answer
locale_answer-same a d = either (is_by_language_and_region d) (plain_answer a a) (phone_answer a a d) Pass (rw (same-rank _) refl) (rw (not_itself (record_locale_of a) (device_locale_of d)) refl)
