-- What is written of a set tells it.
use Rattle.std.proofs.Common.{ℕ, ◌^◌, ◌<◌, ◌≤◌, List, refl, ap, ◌∙◌, arith}
use Rattle.std.specs.Prelude.{Contains}
use Rattle.std.proofs.lemmas.Bool.{ltb-false}
use Rattle.config_record.specs.declared.coord.Coord.{Coord}
use Rattle.config_record.specs.declared.coord.Coord.TheVariants as coords
use Rattle.config_record.specs.locales.declared.locale_rule.LocaleRule.{LocaleRule}
use Rattle.config_record.specs.Coord.{greatest_of, greatest_of_device, is_outside}
use Rattle.config_record.specs.Device.{CanHave}
use Rattle.config_box.specs.box_answers.NumberSet.{RangeOf, NumbersOf, LocalesOf}
use Rattle.config_box.specs.box_answers.Members.{IsSetAt, IsOfKind}
use Rattle.notation.specs.NumberWord.{number_word}
use Rattle.notation.specs.LocaleWord.{locale_word}
use Rattle.notation.specs.DevicesNotation.{set_text}
use Rattle.notation.specs.DevicesLaw.{IsPartAt, SetsAreTold}
use Rattle.notation.proofs.ListedWords.{IsChoiceOf, contained, is_in-contained, all_are, choice-same}
use Rattle.notation.proofs.NumberWords.{AreEnds, range_same, are_words}
use Rattle.notation.proofs.LocaleWords.{IsOfRule, locales_are_words}

-- a number of a device has a next one; a range stands at no locale
few : (c : Coord) (low high n : ℕ) → IsOfKind c (RangeOf low high) → CanHave c n → n ≤ 65535
unfolding is_outside greatest_of_device greatest_of
few coords.Locale low high n kind can = absurd kind
few coords.Density low high n kind can = grind (arith, ltb-false 32767 n)
few c low high n kind can = let most = ltb-false _ n can in omega arith

ends : (c : Coord) (low high : ℕ) → IsSetAt c (RangeOf low high) → AreEnds low high
ends c low high is =
    let up : low ≤ high = is.proper.rises in
    let most = few c low high high is.kind (is.can high (up, omega arith)) in
    record { up = up; fits = omega arith }

number_choice : (rule : LocaleRule) (c : Coord) (all xs : List ℕ) → IsPartAt rule c (NumbersOf all) (NumbersOf xs) → IsChoiceOf (λ n. n < 2 ^ 64) all xs
number_choice rule c all xs is =
    record {
      rising = is.fits.proper.rises;
      within = λ n there. is_in-contained n all (is.within n (contained n xs there));
      are = all_are (λ n. n < 2 ^ 64) all (λ n there. is.stored n (contained n all there));
    }

of_rule : (rule : LocaleRule) (c : Coord) (all xs : List ℕ) (n : ℕ) → IsPartAt rule c (LocalesOf all) (LocalesOf xs) → Contains all n → IsOfRule rule n
of_rule rule coords.Locale all xs n is there = record { fits = is.stored n there; given = is.of_whole.fits.can n there; by_rule = is.of_whole.by_rule refl n there }
of_rule rule c all xs n is there = absurd is.fits.kind

locale_choice : (rule : LocaleRule) (c : Coord) (all xs : List ℕ) → IsPartAt rule c (LocalesOf all) (LocalesOf xs) → IsChoiceOf (IsOfRule rule) all xs
locale_choice rule c all xs is =
    record {
      rising = is.fits.proper.rises;
      within = λ n there. is_in-contained n all (is.within n (contained n xs there));
      are = all_are (IsOfRule rule) all (λ n there. of_rule rule c all xs n is (contained n all there));
    }

pub told : SetsAreTold
unfolding set_text
told rule c (RangeOf a b) (RangeOf low high) (RangeOf other another) p q same =
    let numbers = range_same c (RangeOf a b) low high other another (ends c low high p.fits) (ends c other another q.fits) same in
    ap (λ (n : ℕ). RangeOf n high) numbers.0 ∙ ap (RangeOf other) numbers.1
told rule c (NumbersOf all) (NumbersOf xs) (NumbersOf ys) p q same =
    ap NumbersOf (choice-same (number_word c) (λ n. n < 2 ^ 64) (are_words c) all xs ys (number_choice rule c all xs p) (number_choice rule c all ys q) same)
told rule c (LocalesOf all) (LocalesOf xs) (LocalesOf ys) p q same =
    ap LocalesOf (choice-same locale_word (IsOfRule rule) (locales_are_words rule) all xs ys (locale_choice rule c all xs p) (locale_choice rule c all ys q) same)
told rule c (RangeOf a b) (NumbersOf xs) other p q same = absurd p.marks
told rule c (RangeOf a b) (LocalesOf xs) other p q same = absurd p.marks
told rule c (RangeOf a b) one (NumbersOf ys) p q same = absurd q.marks
told rule c (RangeOf a b) one (LocalesOf ys) p q same = absurd q.marks
told rule c (NumbersOf all) (RangeOf low high) other p q same = absurd p.marks
told rule c (NumbersOf all) (LocalesOf xs) other p q same = absurd p.marks
told rule c (NumbersOf all) one (RangeOf low high) p q same = absurd q.marks
told rule c (NumbersOf all) one (LocalesOf ys) p q same = absurd q.marks
told rule c (LocalesOf all) (RangeOf low high) other p q same = absurd p.marks
told rule c (LocalesOf all) (NumbersOf xs) other p q same = absurd p.marks
told rule c (LocalesOf all) one (RangeOf low high) p q same = absurd q.marks
told rule c (LocalesOf all) one (NumbersOf ys) p q same = absurd q.marks
