-- Comparisons that are orders of ranks, among numbers that suit a device.
use Rattle.std.proofs.Common.{◌≡◌, ℕ, ◌+◌, ◌*◌, ◌<◌, true, ◌==◌, nat_lt, arith, sym}
use Rattle.std.specs.Prelude.{if◌then◌else◌}
use Rattle.std.proofs.lemmas.Bool.Decides.{nat_tests}
use Rattle.config_match.specs.declared.answer.Answer.TheVariants.{Yes, No, Pass}
use Rattle.config_match.specs.Comparisons.{given_answer, larger_answer, always_larger_answer, screen_size_answer, normal_size, counted_size, keys_answer, navigation_answer}
use Rattle.config_match.specs.Condition.{is_equal, is_at_most, keys_suit}
use Rattle.config_precedence.proofs.Composition.{Opposes, Composes}

-- ---- the order of numbers

larger-pass : (p q : ℕ) → always_larger_answer p q ≡ Pass → p ≡ q
larger-pass p q h = grind (arith, nat_tests)

larger-yes : (p q : ℕ) → always_larger_answer p q ≡ Yes → q < p
larger-yes p q h = grind (arith, nat_tests)

larger-equal : (p q : ℕ) → p ≡ q → always_larger_answer p q ≡ Pass
larger-equal p q h = grind (arith, nat_tests)

larger-more : (p q : ℕ) → q < p → always_larger_answer p q ≡ Yes
larger-more p q h = grind (arith, nat_tests)

larger-less : (p q : ℕ) → p < q → always_larger_answer p q ≡ No
larger-less p q h = grind (arith, nat_tests)

pub larger-opposes : (p q : ℕ) → Opposes (always_larger_answer p q) (always_larger_answer q p)
larger-opposes p q = record {
  pass = λ h. larger-equal q p (sym (larger-pass p q h));
  yes = λ h. larger-less q p (larger-yes p q h);
}

pub larger-composes : (p q r : ℕ) → Composes (always_larger_answer p q) (always_larger_answer q p) (always_larger_answer q r) (always_larger_answer r q) (always_larger_answer p r) (always_larger_answer r p)
larger-composes p q r = record {
  first_alike = (λ h. larger-equal q p (sym (larger-pass p q h)), λ h. larger-equal p q (sym (larger-pass q p h)));
  second_alike = (λ h. larger-equal r q (sym (larger-pass q r h)), λ h. larger-equal q r (sym (larger-pass r q h)));
  both_pass = λ h k. let e = larger-pass p q h in let f = larger-pass q r k in (larger-equal p r (omega arith), larger-equal r p (omega arith));
  first_decides = λ h _ k. let e = larger-yes p q h in let f = larger-pass q r k in (larger-more p r (omega arith), larger-less r p (omega arith));
  second_decides = λ h k _. let e = larger-pass p q h in let f = larger-yes q r k in (larger-more p r (omega arith), larger-less r p (omega arith));
  both_decide = λ h _ k _. let e = larger-yes p q h in let f = larger-yes q r k in (larger-more p r (omega arith), larger-less r p (omega arith));
}

-- ---- each comparison is one of ranks

-- 1 for a number that says something
abbrev pub given_rank : ℕ → ℕ
given_rank n = if n == 0 then 0 else 1

pub given-ranked : (a b d : ℕ) → is_equal a d ≡ true → is_equal b d ≡ true → given_answer a b d ≡ always_larger_answer (given_rank a) (given_rank b)
given-ranked a b d p q = grind (arith, nat_tests)

pub navigation-ranked : (a b d : ℕ) → is_equal a d ≡ true → is_equal b d ≡ true → navigation_answer a b d ≡ always_larger_answer (given_rank a) (given_rank b)
navigation-ranked a b d p q = grind (arith, nat_tests)

-- where the device says nothing, nor do the records
pub larger-ranked : (a b d : ℕ) → (d ≡ 0 → a ≡ 0) → (d ≡ 0 → b ≡ 0) → larger_answer a b d ≡ always_larger_answer a b
larger-ranked a b d p q = grind (arith, nat_tests)

-- 2 for what the device says, 1 for something else
abbrev pub keys_rank : ℕ → ℕ → ℕ
keys_rank n d = if n == 0 then 0 else if n == d then 2 else 1

pub keys-ranked : (a b d : ℕ) → keys_suit a d ≡ true → keys_suit b d ≡ true → keys_answer a b d ≡ always_larger_answer (keys_rank a d) (keys_rank b d)
keys-ranked a b d p q = grind (arith, nat_tests)

abbrev pub size_rank : ℕ → ℕ → ℕ
size_rank n d = if nat_lt d normal_size then n else 2 * counted_size n + given_rank n

pub size-ranked : (a b d : ℕ) → is_at_most a d ≡ true → is_at_most b d ≡ true → screen_size_answer a b d ≡ always_larger_answer (size_rank a d) (size_rank b d)
size-ranked a b d p q = grind (arith, nat_tests)
