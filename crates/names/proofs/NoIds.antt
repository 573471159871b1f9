-- A text with a `/` in it is no id.
use Rattle.std.proofs.Common.{◌≡◌, ℕ, ◌+◌, ◌*◌, ◌/◌, ◌%◌, ◌==◌, ◌&&◌, Bool, true, false, cond, List, [], ◌∷◌, ◌++◌, length, drop, codes, nat_eq, Option, Some, None, Result, Ok, Err, refl, ap}
use Rattle.std.specs.List.{starts_with}
use Rattle.std.specs.Option.{option_map}
use Rattle.std.specs.Result.{result_ok}
use Rattle.hex.specs.Hex.{◌>>=◌, decode_pairs, decode_sized, digit_or_error, hex_digit_value, pair_value, value_at}
use Rattle.hex.specs.declared.error.FromHexError.{FromHexError}
use Rattle.hex.specs.declared.error.FromHexError.TheVariants.{OddLength, InvalidStringLength}
use Rattle.res_value.specs.ResId.{id_of, id_of_bytes}

both-bytes : (byte : Result ℕ FromHexError) (others : Result (List ℕ) FromHexError) → result_ok others ≡ None
    → result_ok (byte >>= λ b. others >>= λ bs. Ok (b ∷ bs)) ≡ None
both-bytes (Err fault) others none = refl
both-bytes (Ok b) (Err fault) none = refl
both-bytes (Ok b) (Ok bs) none = absurd cc

-- `/` is no digit
no-pairs : (i : ℕ) (xs ys : List ℕ) → result_ok (decode_pairs i (xs ++ 47 ∷ ys)) ≡ None
unfolding decode_pairs
no-pairs i [] [] = refl
no-pairs i [] (y ∷ ys) = refl
no-pairs i (x ∷ []) ys = by (hex_digit_value x)
  where
    by : (high : Option ℕ) → result_ok ((digit_or_error x i high >>= λ h. value_at 47 (i + 1) >>= λ l. Ok (h * 16 + l)) >>= λ b. decode_pairs (i + 2) ys >>= λ bs. Ok (b ∷ bs)) ≡ None
    by None = refl
    by (Some h) = refl
no-pairs i (x ∷ y ∷ xs) ys = both-bytes (pair_value x y i) (decode_pairs (i + 2) (xs ++ 47 ∷ ys)) (no-pairs (i + 2) xs ys)

none-sized : (zs : List ℕ) (n : ℕ) → result_ok (decode_pairs 0 zs) ≡ None → result_ok (decode_sized zs n) ≡ None
none-sized zs n none = by (length zs % 2 == 1) (length zs / 2 == n)
  where
    too_odd : Result (List ℕ) FromHexError
    too_odd = Err OddLength

    too_long : Result (List ℕ) FromHexError
    too_long = Err InvalidStringLength

    by : (odd fits : Bool) → result_ok (cond odd too_odd (cond fits (decode_pairs 0 zs) too_long)) ≡ None
    by true fits = refl
    by false true = none
    by false false = refl

pub no-id : (xs ys : List ℕ) → id_of (xs ++ 47 ∷ ys) ≡ None
unfolding id_of
no-id [] ys = refl
no-id (x ∷ []) ys = by (nat_eq 48 x)
  where
    by : (here : Bool) → cond (here && false) (option_map id_of_bytes (result_ok (decode_sized (drop 2 (x ∷ 47 ∷ ys)) 4))) None ≡ None
    by true = refl
    by false = refl
no-id (x ∷ y ∷ xs) ys = by (starts_with nat_eq (x ∷ y ∷ (xs ++ 47 ∷ ys)) (codes "0x"))
  where
    by : (begins : Bool) → cond begins (option_map id_of_bytes (result_ok (decode_sized (xs ++ 47 ∷ ys) 4))) None ≡ None
    by true = ap (option_map id_of_bytes) (none-sized (xs ++ 47 ∷ ys) 4 (no-pairs 0 xs ys))
    by false = refl
