-- The words of formats determine the bits.
use Rattle.std.proofs.Common.{◌≡◌, ℕ, ◌+◌, ◌-◌, ◌*◌, ◌/◌, ◌%◌, ◌^◌, ◌<◌, ◌==◌, ◌&&◌, ◌||◌, not, nat_lt, Bool, true, false, if◌then◌else◌, List, [], ◌∷◌, ◌++◌, codes, Option, Some, None, refl, sym, ap, subst, ◌∙◌, inl, inr, arith}
use Rattle.std.specs.List.{list_all, range_with_len}
use Rattle.std.proofs.lemmas.Bool.{cases_Bool, and_parts, eqb-true, ltb-true}
use Rattle.notation.specs.FormatsText.{types, choices, is_any, set_word, type_words, has_words, formats_notation}
use Rattle.notation.proofs.XmlLaw.{list_all-range}

-- ---- the bits of a text

behind_f : List ℕ → ℕ
behind_f (y ∷ z ∷ others) = if y == 114 then 2 ^ 7 else if z == 111 then 2 ^ 5 else 2 ^ 17
behind_f others = 0

-- the bits of a word, told by its first letters
bits_of : List ℕ → ℕ
bits_of [] = 0
bits_of (x ∷ xs) =
    if x == 97 then 65535
    else if x == 98 then 2 ^ 3
    else if x == 99 then 2 ^ 4
    else if x == 100 then 2 ^ 6
    else if x == 101 then 2 ^ 16
    else if x == 102 then behind_f xs
    else if x == 105 then 2 ^ 2
    else if x == 114 then 2 ^ 0
    else 2 ^ 1

-- a word begins behind each bar
read_from : Bool → List ℕ → ℕ
read_from begins [] = 0
read_from begins (x ∷ xs) = (if begins then bits_of (x ∷ xs) else 0) + read_from (x == 124) xs

read : Option (List ℕ) → ℕ
read None = 0
read (Some text) = read_from true text

-- ---- all of them

abbrev low_at : ℕ → ℕ
low_at i = if i % 257 == 256 then 65535 else i % 257

abbrev bits_at : ℕ → ℕ
bits_at i = low_at i + 65536 * (i / 257)

reads : ℕ → Bool
reads i = read (formats_notation (bits_at i)) == bits_at i

all_read : list_all reads (range_with_len 0 1028) ≡ true
unfolding reads read read_from bits_of behind_f formats_notation type_words set_word types choices
all_read = refl

index_of : (bits : ℕ) → has_words bits ≡ true → (i : ℕ) × (i < 1028) × (bits_at i ≡ bits)
index_of bits has =
    let both = and_parts (not (bits == 0) && nat_lt bits (2 ^ 18)) (is_any bits || nat_lt (bits % 2 ^ 16) (2 ^ 8)) has in
    let few = ltb-true bits (2 ^ 18) (and_parts (not (bits == 0)) (nat_lt bits (2 ^ 18)) both.0).1 in
    elim (cases_Bool (is_any bits)) [
      | inl any ↦ (
          let low : bits % 2 ^ 16 ≡ 2 ^ 16 - 1 = eqb-true (bits % 2 ^ 16) (2 ^ 16 - 1) any in
          let place : (256 + 257 * (bits / 65536)) % 257 ≡ 256 = omega arith in
          let high : (256 + 257 * (bits / 65536)) / 257 ≡ bits / 65536 = omega arith in
          (256 + 257 * (bits / 65536), omega (arith, few), rw (place, high) (omega (arith, low)))
          )
      | inr some ↦ (
          let low : bits % 2 ^ 16 < 2 ^ 8 = ltb-true (bits % 2 ^ 16) (2 ^ 8) (rw some at both.1) in
          let place : (bits % 65536 + 257 * (bits / 65536)) % 257 ≡ bits % 65536 = omega (arith, low) in
          let high : (bits % 65536 + 257 * (bits / 65536)) / 257 ≡ bits / 65536 = omega (arith, low) in
          let other : (bits % 65536 == 256) ≡ false = grind (arith, low) in
          (bits % 65536 + 257 * (bits / 65536), omega (arith, few, low), rw (place, high, other) (omega arith))
          )
    ]

reads_is : (i : ℕ) → reads i ≡ true → (read (formats_notation (bits_at i)) == bits_at i) ≡ true
unfolding reads
reads_is i is = is

reads_back : (bits : ℕ) → has_words bits ≡ true → read (formats_notation bits) ≡ bits
reads_back bits has =
    let i = index_of bits has in
    let none : 0 + i.0 ≡ i.0 = omega arith in
    let at : reads i.0 ≡ true = subst (λ (k : ℕ). reads k ≡ true) none (list_all-range reads 0 1028 i.0 all_read i.1) in
    subst (λ (b : ℕ). read (formats_notation b) ≡ b) i.2 (eqb-true (read (formats_notation (bits_at i.0))) (bits_at i.0) (reads_is i.0 at))

has : (bits : ℕ) (text : List ℕ) → formats_notation bits ≡ Some text → has_words bits ≡ true
unfolding formats_notation
has bits text is = elim (cases_Bool (has_words bits)) [
  | inl some ↦ some
  | inr other ↦ absurd (let none = rw other at is in cc)
]

pub told : (one other : ℕ) (text : List ℕ) → formats_notation one ≡ Some text → formats_notation other ≡ Some text → one ≡ other
told one other text is also = sym (reads_back one (has one text is)) ∙ ap read (is ∙ sym also) ∙ reads_back other (has other text also)
