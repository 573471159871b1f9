-- Languages that are alike: each to itself, in either order, and where two are alike to a third.
use Rattle.std.proofs.Common.{◌≡◌, ℕ, ◌==◌, ◌&&◌, ◌||◌, Bool, true, arith}
use Rattle.std.proofs.lemmas.Bool.Decides.{nat_tests}
use Rattle.locales.specs.TextNumber.{number_of_text}
use Rattle.locales.specs.Words.{are_alike}

-- of any two languages that count as one
abbrev alike_by : ℕ → ℕ → ℕ → ℕ → Bool
alike_by t f one other = one == other || (one == t && other == f) || (one == f && other == t)

alike_by-self : (t f x : ℕ) → alike_by t f x x ≡ true
alike_by-self t f x = grind (arith, nat_tests)

alike_by-flip : (t f x y : ℕ) → alike_by t f x y ≡ alike_by t f y x
alike_by-flip t f x y = grind (arith, nat_tests)

alike_by-third : (t f x y z : ℕ) → alike_by t f x z ≡ true → alike_by t f y z ≡ true → alike_by t f x y ≡ true
alike_by-third t f x y z first second = grind (arith, nat_tests)

pub are_alike-self : (x : ℕ) → are_alike x x ≡ true
unfolding are_alike
are_alike-self x = alike_by-self (number_of_text "tl") (number_of_text "fil") x

pub are_alike-flip : (x y : ℕ) → are_alike x y ≡ are_alike y x
unfolding are_alike
are_alike-flip x y = alike_by-flip (number_of_text "tl") (number_of_text "fil") x y

pub are_alike-third : (x y z : ℕ) → are_alike x z ≡ true → are_alike y z ≡ true → are_alike x y ≡ true
unfolding are_alike
are_alike-third x y z = alike_by-third (number_of_text "tl") (number_of_text "fil") x y z
