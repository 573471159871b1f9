-- Where the parts of a word stand.
use Rattle.std.proofs.Common.{◌≡◌, ℕ, ◌<◌, Bool, true, false, List, [], ◌∷◌, length, Option, Some, None, MatchOption, Bor, refl, arith}
use Rattle.std.specs.List.{list_any, position_or_len, before_first, after_first}
use Rattle.names.specs.Named.{is_colon}

-- a list has a first item that passes where one passes
no_first : (p : ℕ → Bool) (xs : List ℕ) → position_or_len p xs ≡ length xs → list_any p xs ≡ false
no_first p [] e = refl
no_first p (x ∷ xs) e = by (p x) refl (λ later. no_first p xs later)
  where
    by : (b : Bool) → p x ≡ b → (position_or_len p xs ≡ length xs → list_any p xs ≡ false) → list_any p (x ∷ xs) ≡ false
    by true passes others = (let past = rw passes at e in absurd (omega (arith, past)))
    by false not_here others = (let past = rw not_here at e in rw (not_here) (others (omega (arith, past))))

is_first : (p : ℕ → Bool) (xs : List ℕ) → position_or_len p xs < length xs → list_any p xs ≡ true
is_first p [] within = absurd (omega (arith, within))
is_first p (x ∷ xs) within = by (p x) refl (λ later. is_first p xs later)
  where
    by : (b : Bool) → p x ≡ b → (position_or_len p xs < length xs → list_any p xs ≡ true) → list_any p (x ∷ xs) ≡ true
    by true passes others = rw passes refl
    by false not_here others = (let later = rw not_here at within in rw not_here (others (omega (arith, later))))

pub cut-seen : (text : List ℕ) (parts : Option (Bor (List ℕ) × Bor (List ℕ)))
    → MatchOption parts (position_or_len is_colon text ≡ length text)
    (λ x. (position_or_len is_colon text < length text) × (x.0.now ≡ before_first is_colon text) × (x.1.now ≡ after_first is_colon text))
    → MatchOption parts (list_any is_colon text ≡ false)
    (λ x. (list_any is_colon text ≡ true) × (x.0.now ≡ before_first is_colon text) × (x.1.now ≡ after_first is_colon text))
cut-seen text None past = no_first is_colon text past
cut-seen text (Some x) cut = (is_first is_colon text cut.0, cut.1, cut.2)
