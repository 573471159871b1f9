use Rattle.std.proofs.Common.{◌≡◌, ℕ, ◌+◌, ◌^◌, ◌<◌, ◌&&◌, nat_lt, if◌then◌else◌, List, length, get_or, drop, Option, Some, None, inl, inr, ap, sym, ◌∙◌}
use Rattle.std.proofs.lemmas.Bool.{cond-true, cases_Bool}
use Rattle.std.proofs.lemmas.List.{drop_more}
use Rattle.config_record.specs.locales.Locale.{is_digit}
use Rattle.notation.specs.Numeral.{with_digit, with_digits}
use Rattle.notation.proofs.numeral.number_of.Goals as goal

one_number : (m n : ℕ) → Some m ≡ Some n → m ≡ n
one_number m n same = cc

no_number : (m : ℕ) → ◌≡◌ {A = Option ℕ} (Some m) None → ⊥
no_number m same = cc

-- one digit more is read
next-digit : (n m : ℕ) (digits : List ℕ) (i : ℕ) (all : Option ℕ) → with_digits n (drop i digits) ≡ all → i < length digits
    → Some m ≡ (if is_digit (get_or digits i 0) && nat_lt (with_digit n (get_or digits i 0)) (2 ^ 64) then Some (with_digit n (get_or digits i 0)) else None)
    → with_digits m (drop (i + 1) digits) ≡ all
unfolding with_digits
next-digit n m digits i all before on read =
    let byte : ℕ = get_or digits i 0 in
    elim (cases_Bool (is_digit byte && nat_lt (with_digit n byte) (2 ^ 64))) [
      | inl is ↦
          ap (λ (k : ℕ). with_digits k (drop (i + 1) digits)) (one_number m (with_digit n byte) (rw is at read))
          ∙ sym (cond-true _ _ _ is)
          ∙ ap (with_digits n) (sym (drop_more digits i 0 on))
          ∙ before
      | inr other ↦ absurd (no_number m (rw other at read))
    ]

pub digits-preserved : goal.digits-preserved
digits-preserved c =
    next-digit c.digits.number c.in_ok-number.number c.args.digits.now c.digits.digit-index _ c.digits.invariant c.digits-test.true c.in_ok-number.ensures
