-- Facts about texts in columns.
use Rattle.std.proofs.Common.{◌≡◌, ◌+◌, ℕ, zero, suc, Bool, true, false, List, ◌++◌, length, chars, refl, sym, ap, ◌∙◌, append_assoc, arith}
use Rattle.std.proofs.lemmas.List.{append-nil}
use Rattle.std.proofs.lemmas.Str.{IsUtf8-from_is_utf8, is_utf8-from_IsUtf8}
use Rattle.std.specs.List.{repeat}
use Rattle.std.specs.Str.{IsUtf8, is_utf8}
use Rattle.unicode_width.specs.Width.{str_width}
use Rattle.resource_text.specs.Columns.{width_of}

-- ---- how wide a text is

pub width-of_text : (text : List ℕ) → IsUtf8 text → str_width false (chars text) ≡ width_of text
unfolding width_of
width-of_text text utf8 = rw (is_utf8-from_IsUtf8 text utf8) refl

pub width-of_bytes : (text : List ℕ) → (IsUtf8 text → ⊥) → length text ≡ width_of text
unfolding width_of
width-of_bytes text none = go (is_utf8 text) refl
  where
    go : (is : Bool) → is_utf8 text ≡ is → length text ≡ width_of text
    go true is = absurd (none (IsUtf8-from_is_utf8 text is))
    go false is = rw is refl

-- ---- spaces

repeat-last : (n : ℕ) (xs : List ℕ) → repeat n xs ++ xs ≡ repeat (suc n) xs
repeat-last zero xs = sym (append-nil xs)
repeat-last (suc n) xs = append_assoc xs (repeat n xs) xs ∙ ap (λ (ys : List ℕ). xs ++ ys) (repeat-last n xs)

pub repeat-more : (n : ℕ) (xs : List ℕ) → repeat n xs ++ xs ≡ repeat (n + 1) xs
repeat-more n xs = let more : suc n ≡ n + 1 = omega arith in repeat-last n xs ∙ ap (λ (m : ℕ). repeat m xs) more
