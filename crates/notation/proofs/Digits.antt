-- Numbers in texts: their digits, and what stands around them.
use Rattle.std.proofs.Common.{◌≡◌, ℕ, ◌+◌, ◌%◌, ◌^◌, ◌<◌, ◌==◌, not, Bool, true, false, List, [], ◌∷◌, ◌++◌, length, refl, ap, ◌∙◌, inl, inr, arith}
use Rattle.std.specs.Prelude.{filter}
use Rattle.std.specs.List.{list_any, list_all}
use Rattle.std.specs.Fmt.{decimal}
use Rattle.std.proofs.lemmas.Bool.{cases_Bool, and_parts, le-leb, eqb-true}
use Rattle.std.proofs.lemmas.Fmt.{decimal_by_steps, decimal_nonempty}
use Rattle.std.proofs.Math.Bool.{or-true}
use Rattle.std.proofs.lemmas.List.{append-nil}
use Rattle.std.proofs.lemmas.List.Elements.{filter-append}
use Rattle.std.proofs.lemmas.List.Folds.{list_any-append, list_all-append}
use Rattle.config_record.specs.locales.Locale.{is_digit}

abbrev pub is_no_digit : ℕ → Bool
is_no_digit byte = not (is_digit byte)

-- what stands around the digits, and the digits
abbrev pub letters_of : List ℕ → List ℕ
letters_of text = filter is_no_digit text

abbrev pub digits_of : List ℕ → List ℕ
digits_of text = filter is_digit text

-- ---- tests of each byte

pub filter-all : {X : Type 0} (p : X → Bool) (xs : List X) → list_all p xs ≡ true → filter p xs ≡ xs
filter-all p [] e = refl
filter-all {X} p (x ∷ xs) e = let both = and_parts (p x) (list_all p xs) e in rw both.0 (ap (λ (t : List X). x ∷ t) (filter-all p xs both.1))

pub filter-none : {X : Type 0} (p : X → Bool) (xs : List X) → list_any p xs ≡ false → filter p xs ≡ []
filter-none p [] e = refl
filter-none p (x ∷ xs) e = elim (cases_Bool (p x)) [
  | inl here ↦ absurd (let found = rw here at e in cc)
  | inr other ↦ rw other (filter-none p xs (rw other at e))
]

pub any-none : {X : Type 0} (p q : X → Bool) (xs : List X) → ((x : X) → p x ≡ true → q x ≡ false) → list_all p xs ≡ true → list_any q xs ≡ false
any-none p q [] apart e = refl
any-none p q (x ∷ xs) apart e = let both = and_parts (p x) (list_all p xs) e in rw (apart x both.0) (any-none p q xs apart both.1)

pub all-not : (p : ℕ → Bool) (xs : List ℕ) → list_any p xs ≡ false → list_all (λ x. not (p x)) xs ≡ true
all-not p [] e = refl
all-not p (x ∷ xs) e = elim (cases_Bool (p x)) [
  | inl here ↦ absurd (let found = rw here at e in cc)
  | inr other ↦ rw other (all-not p xs (rw other at e))
]

-- ---- decimals

pub digit-is : (d : ℕ) → d < 10 → is_digit (48 + d) ≡ true
digit-is d small = rw (le-leb 48 (48 + d) (omega arith), le-leb (48 + d) 57 (omega (arith, small))) refl

pub all_digits : (n : ℕ) → n < 2 ^ 64 → list_all is_digit (decimal n) ≡ true
all_digits n fits =
    let P : ℕ → List ℕ → Type 0 = λ m ds. list_all is_digit ds ≡ true in
    decimal_by_steps P (λ m small. rw (digit-is m small) refl)
    (λ m ds large before. list_all-append is_digit ds ((48 + m % 10) ∷ []) ∙ rw (before, digit-is (m % 10) (omega arith)) refl)
    n fits

pub digits_of-decimal : (n : ℕ) → n < 2 ^ 64 → digits_of (decimal n) ≡ decimal n
digits_of-decimal n fits = filter-all is_digit (decimal n) (all_digits n fits)

no_letters : (x : ℕ) → is_digit x ≡ true → is_no_digit x ≡ false
no_letters x e = rw e refl

pub letters_of-decimal : (n : ℕ) → n < 2 ^ 64 → letters_of (decimal n) ≡ []
letters_of-decimal n fits = filter-none is_no_digit (decimal n) (any-none is_digit is_no_digit (decimal n) no_letters (all_digits n fits))

-- a byte that is no digit is not among them
pub none_in_decimal : (p : ℕ → Bool) (n : ℕ) → n < 2 ^ 64 → ((x : ℕ) → is_digit x ≡ true → p x ≡ false) → list_any p (decimal n) ≡ false
none_in_decimal p n fits apart = any-none is_digit p (decimal n) apart (all_digits n fits)

some_digit : (ds : List ℕ) → list_all is_digit ds ≡ true → 0 < length ds → list_any is_digit ds ≡ true
some_digit [] e some = absurd (omega (arith, some))
some_digit (d ∷ ds) e some = let both = and_parts (is_digit d) (list_all is_digit ds) e in rw both.0 refl

pub has_digit : (n : ℕ) → n < 2 ^ 64 → list_any is_digit (decimal n) ≡ true
has_digit n fits = some_digit (decimal n) (all_digits n fits) (decimal_nonempty n fits)

pub apart : (p : ℕ → Bool) (mark : ℕ) → p mark ≡ false → (x : ℕ) → p x ≡ true → (x == mark) ≡ false
apart p mark other x of_kind = elim (cases_Bool (x == mark)) [
  | inl is ↦ absurd (let found = rw (eqb-true x mark is) at of_kind in cc)
  | inr it ↦ it
]

-- a mark of another kind is not among bytes of one kind
pub no_mark : (p : ℕ → Bool) (mark : ℕ) (xs : List ℕ) → p mark ≡ false → list_all p xs ≡ true → list_any (λ x. x == mark) xs ≡ false
no_mark p mark xs other all = any-none p (λ x. x == mark) xs (apart p mark other) all

-- a mark that is no digit is not in a number
pub unmarked : (mark n : ℕ) → is_digit mark ≡ false → n < 2 ^ 64 → list_any (λ x. x == mark) (decimal n) ≡ false
unmarked mark n other fits = none_in_decimal (λ x. x == mark) n fits (apart is_digit mark other)

-- ---- a number with letters before and behind it

-- no digit stands around it
pub record Around (front end : List ℕ) : Type 0 where
  pub before : list_any is_digit front ≡ false
  pub behind : list_any is_digit end ≡ false

pub letters_around : (front end : List ℕ) (n : ℕ) → Around front end → n < 2 ^ 64 → letters_of (front ++ decimal n ++ end) ≡ front ++ end
letters_around front end n plain fits =
    simp (filter-append, letters_of-decimal n fits, filter-all is_no_digit front (all-not is_digit front plain.before), filter-all is_no_digit end (all-not is_digit end plain.behind), append-nil)

pub digits_around : (front end : List ℕ) (n : ℕ) → Around front end → n < 2 ^ 64 → digits_of (front ++ decimal n ++ end) ≡ decimal n
digits_around front end n plain fits =
    simp (filter-append, digits_of-decimal n fits, filter-none is_digit front plain.before, filter-none is_digit end plain.behind, append-nil)

pub some_around : (front end : List ℕ) (n : ℕ) → n < 2 ^ 64 → list_any is_digit (front ++ decimal n ++ end) ≡ true
some_around front end n fits = simp (list_any-append, has_digit n fits, or-true)

pub none_around : (p : ℕ → Bool) (front end : List ℕ) (n : ℕ) → n < 2 ^ 64 → ((x : ℕ) → is_digit x ≡ true → p x ≡ false)
    → list_any p front ≡ false → list_any p end ≡ false → list_any p (front ++ decimal n ++ end) ≡ false
none_around p front end n fits apart before behind = simp (list_any-append, none_in_decimal p n fits apart, before, behind)
