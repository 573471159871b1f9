-- The words of numbers and of ranges.
use Rattle.std.proofs.Common.{◌≡◌, ℕ, ◌+◌, ◌^◌, ◌<◌, ◌≤◌, ◌==◌, ◌||◌, not, nat_lt, Bool, true, false, if◌then◌else◌, List, [], ◌∷◌, ◌++◌, codes, length, Option, Some, None, refl, sym, ap, subst, ◌∙◌, inl, inr, arith, append_assoc}
use Rattle.std.specs.List.{list_any}
use Rattle.std.specs.Fmt.{decimal}
use Rattle.std.proofs.lemmas.Bool.{cases_Bool, eqb-true, ltb-true}
use Rattle.std.proofs.lemmas.Fmt.{decimal_injective}
use Rattle.std.proofs.lemmas.List.{append-nil}
use Rattle.std.proofs.lemmas.List.Folds.{list_any-append}
use Rattle.config_record.specs.declared.coord.Coord.{Coord}
use Rattle.config_record.specs.declared.coord.Coord.TheVariants as coords
use Rattle.config_record.specs.Coord.{name_of, place_of}
use Rattle.config_record.specs.locales.Locale.{is_digit}
use Rattle.notation.specs.Cut.{cut_at}
use Rattle.notation.specs.Words.{words, word_for}
use Rattle.notation.specs.Forms.{forms, form_for}
use Rattle.config_box.specs.box_answers.NumberSet.{SetOf, RangeOf, NumbersOf, LocalesOf}
use Rattle.notation.specs.NumberWord.{letters_at, in_letters, number_word}
use Rattle.notation.specs.DevicesNotation.{comma, begins_with, ends_with, range_text}
use Rattle.notation.proofs.Digits.{digits_of, digits_around, apart, none_around, none_in_decimal, has_digit}
use Rattle.notation.proofs.LocaleTexts.{cut_at-behind}
use Rattle.notation.proofs.PieceKinds.{word-has}
use Rattle.notation.proofs.NumberPieces.{front_of, end_of, told, is_piece, as-word, as-letters}
use Rattle.notation.proofs.ListedWords.{has, blank, AreWords}

-- ---- signs

-- what stands between the words of a line, and in ranges
abbrev pub is_sign : ℕ → Bool
is_sign b = b == comma || b == blank || b == 60 || b == 62 || b == 46

abbrev none_signed : List ℕ → Type 0
none_signed text = list_any is_sign text ≡ false

no_digit_is : (x : ℕ) → is_digit x ≡ true → is_sign x ≡ false
no_digit_is x is =
    rw (
      apart is_digit comma refl x is,
      apart is_digit blank refl x is,
      apart is_digit 60 refl x is,
      apart is_digit 62 refl x is,
      apart is_digit 46 refl x is,
    ) refl

-- a text without signs has none of them
pub weaker : (p q : ℕ → Bool) (xs : List ℕ) → ((x : ℕ) → p x ≡ false → q x ≡ false) → list_any p xs ≡ false → list_any q xs ≡ false
weaker p q [] each none = refl
weaker p q (x ∷ xs) each none = elim (cases_Bool (p x)) [
  | inl there ↦ absurd (let found = rw there at none in cc)
  | inr other ↦ rw (each x other) (weaker p q xs each (rw other at none))
]

second : (a b : Bool) → (a || b) ≡ false → b ≡ false
second true b e = absurd cc
second false b e = e

first : (a b : Bool) → (a || b) ≡ false → a ≡ false
first true b e = absurd cc
first false b e = refl

less_sign : (x : ℕ) → is_sign x ≡ false → (x == 60) ≡ false
less_sign x e = second _ _ (first _ _ (first _ _ e))

greater_sign : (x : ℕ) → is_sign x ≡ false → (x == 62) ≡ false
greater_sign x e = second _ _ (first _ _ e)

dot_sign : (x : ℕ) → is_sign x ≡ false → (x == 46) ≡ false
dot_sign x e = second _ _ e

blank_sign : (x : ℕ) → is_sign x ≡ false → (x == blank) ≡ false
blank_sign x e = second _ _ (first _ _ (first _ _ (first _ _ e)))

comma_sign : (x : ℕ) → is_sign x ≡ false → (x == comma) ≡ false
comma_sign x e = first _ _ (first _ _ (first _ _ (first _ _ e)))

-- ---- what stands around a number has no sign and no digit

front_plain : (c : Coord) → list_any is_sign (letters_at c).front ≡ false
unfolding letters_at name_of form_for forms place_of
front_plain coords.Mcc = refl
front_plain c = refl

sign_plain : (c : Coord) → list_any is_sign (letters_at c).sign ≡ false
unfolding letters_at name_of form_for forms place_of
sign_plain coords.Mcc = refl
sign_plain c = refl

end_plain : (c : Coord) → list_any is_sign (letters_at c).end ≡ false
unfolding letters_at name_of form_for forms place_of
end_plain coords.Mcc = refl
end_plain c = refl

front_letters : (c : Coord) → list_any is_digit (letters_at c).front ≡ false
unfolding letters_at name_of form_for forms place_of
front_letters coords.Mcc = refl
front_letters c = refl

sign_letters : (c : Coord) → list_any is_digit (letters_at c).sign ≡ false
unfolding letters_at name_of form_for forms place_of
sign_letters coords.Mcc = refl
sign_letters c = refl

end_letters : (c : Coord) → list_any is_digit (letters_at c).end ≡ false
unfolding letters_at name_of form_for forms place_of
end_letters coords.Mcc = refl
end_letters c = refl

-- ---- the word of a number

falsely : (b : Bool) → not b ≡ true → b ≡ false
falsely true e = absurd cc
falsely false e = refl

word_plain : (c : Coord) (n : ℕ) (word : List ℕ) → word_for words c n ≡ Some word → not (list_any is_sign word) ≡ true
unfolding words
word_plain c n word found = word-has (λ t k m. not (list_any is_sign t)) words c n word refl found

word_some : (c : Coord) (n : ℕ) (word : List ℕ) → word_for words c n ≡ Some word → nat_lt 0 (length word) ≡ true
unfolding words
word_some c n word found = word-has (λ t k m. nat_lt 0 (length t)) words c n word refl found

letters_plain : (c : Coord) (n : ℕ) → n < 2 ^ 64 → none_signed (front_of c ++ decimal n ++ end_of c)
letters_plain c n fits =
    none_around is_sign (front_of c) (end_of c) n fits no_digit_is
    (list_any-append is_sign (letters_at c).front (letters_at c).sign ∙ rw (front_plain c, sign_plain c) refl) (end_plain c)

some_text : (p : ℕ → Bool) (text : List ℕ) → list_any p text ≡ true → 0 < length text
some_text p [] there = absurd cc
some_text p (x ∷ xs) there = omega arith

letters_some : (c : Coord) (n : ℕ) → n < 2 ^ 64 → 0 < length (front_of c ++ decimal n ++ end_of c)
letters_some c n fits = some_text is_digit (front_of c ++ decimal n ++ end_of c) (there (list_any is_digit (front_of c)) (list_any is_digit (end_of c)))
  where
    all : list_any is_digit (front_of c ++ decimal n ++ end_of c) ≡ ((list_any is_digit (front_of c) || list_any is_digit (decimal n)) || list_any is_digit (end_of c))
    all = simp (list_any-append)

    there : (a b : Bool) → list_any is_digit (front_of c ++ decimal n ++ end_of c) ≡ true
    there a b = all ∙ rw (has_digit n fits) (by (list_any is_digit (front_of c)) (list_any is_digit (end_of c)))
      where
        by : (a b : Bool) → ((a || true) || b) ≡ true
        by true b = refl
        by false b = refl

pub number_plain : (c : Coord) (n : ℕ) → n < 2 ^ 64 → list_any is_sign (number_word c n) ≡ false
number_plain c n fits = by (word_for words c n) refl
  where
    by : (word : Option (List ℕ)) → word_for words c n ≡ word → list_any is_sign (number_word c n) ≡ false
    by (Some word) found = rw (as-word c n word found) (falsely _ (word_plain c n word found))
    by None none = rw (as-letters c n none) (letters_plain c n fits)

number_some : (c : Coord) (n : ℕ) → n < 2 ^ 64 → 0 < length (number_word c n)
number_some c n fits = by (word_for words c n) refl
  where
    by : (word : Option (List ℕ)) → word_for words c n ≡ word → 0 < length (number_word c n)
    by (Some word) found = rw (as-word c n word found) (ltb-true 0 (length word) (word_some c n word found))
    by None none = rw (as-letters c n none) (letters_some c n fits)

number_tells : (c : Coord) (n m : ℕ) → n < 2 ^ 64 → m < 2 ^ 64 → number_word c n ≡ number_word c m → n ≡ m
number_tells c n m p q same = sym (is_piece c n p).tells ∙ ap told same ∙ (is_piece c m q).tells

pub are_words : (c : Coord) → AreWords (number_word c) (λ n. n < 2 ^ 64)
are_words c =
    record {
      no_comma = λ n fits. weaker is_sign (λ x. x == comma) (number_word c n) comma_sign (number_plain c n fits);
      no_blank = λ n fits. weaker is_sign (λ x. x == blank) (number_word c n) blank_sign (number_plain c n fits);
      some = number_some c;
      same = number_tells c;
    }

-- ---- the text of a range

-- a number in the letters of a coordinate, with another sign in front
abbrev beside : Coord → List ℕ → ℕ → List ℕ
beside c sign n = in_letters (letters_at c) sign (decimal n)

beside_digits : (c : Coord) (sign : List ℕ) (n : ℕ) → list_any is_digit sign ≡ false → n < 2 ^ 64 → digits_of (beside c sign n) ≡ decimal n
beside_digits c sign n none fits =
    digits_around ((letters_at c).front ++ sign) (letters_at c).end n
    (record { before = list_any-append is_digit (letters_at c).front sign ∙ rw (front_letters c, none) refl; behind = end_letters c }) fits

beside_same : (c : Coord) (sign : List ℕ) (n m : ℕ) → list_any is_digit sign ≡ false → n < 2 ^ 64 → m < 2 ^ 64 → beside c sign n ≡ beside c sign m → n ≡ m
beside_same c sign n m none p q same = decimal_injective n m p q (sym (beside_digits c sign n none p) ∙ ap digits_of same ∙ beside_digits c sign m none q)

-- which marks stand in it
beside_has : (mark : ℕ) (c : Coord) (sign : List ℕ) (n : ℕ) → ((x : ℕ) → is_sign x ≡ false → (x == mark) ≡ false) → is_digit mark ≡ false → n < 2 ^ 64 → has mark (beside c sign n) ≡ has mark sign
beside_has mark c sign n is other fits =
    all ∙ rw (
      weaker is_sign (λ x. x == mark) (letters_at c).front is (front_plain c),
      none_in_decimal (λ x. x == mark) n fits (apart is_digit mark other),
      weaker is_sign (λ x. x == mark) (letters_at c).end is (end_plain c),
    ) (alone (has mark sign))
  where
    all : has mark (beside c sign n) ≡ (((has mark (letters_at c).front || has mark sign) || has mark (decimal n)) || has mark (letters_at c).end)
    all = simp (list_any-append)

    alone : (b : Bool) → (((false || b) || false) || false) ≡ b
    alone true = refl
    alone false = refl

-- two numbers, and dots between them
abbrev between : Coord → ℕ → ℕ → List ℕ
between c low high = in_letters (letters_at c) (letters_at c).sign (decimal low ++ codes ".." ++ decimal high)

abbrev before_dots : Coord → ℕ → List ℕ
before_dots c low = front_of c ++ decimal low

abbrev behind_dots : Coord → ℕ → List ℕ
behind_dots c high = codes "." ++ decimal high ++ end_of c

between-cut : (c : Coord) (low high : ℕ) → between c low high ≡ before_dots c low ++ 46 ∷ behind_dots c high
between-cut c low high = simp (append_assoc)

before_plain : (c : Coord) (low : ℕ) → low < 2 ^ 64 → list_any is_sign (before_dots c low) ≡ false
before_plain c low fits =
    list_any-append is_sign (front_of c) (decimal low)
    ∙ rw (list_any-append is_sign (letters_at c).front (letters_at c).sign, front_plain c, sign_plain c, none_in_decimal is_sign low fits no_digit_is) refl

cut_between : (c : Coord) (low high : ℕ) → low < 2 ^ 64 → cut_at 46 (between c low high) ≡ (before_dots c low, Some (behind_dots c high))
cut_between c low high fits =
    ap (cut_at 46) (between-cut c low high)
    ∙ cut_at-behind 46 (before_dots c low) (behind_dots c high) (weaker is_sign (λ x. x == 46) (before_dots c low) dot_sign (before_plain c low fits))

front_of_letters : (c : Coord) → list_any is_digit (front_of c) ≡ false
front_of_letters c = list_any-append is_digit (letters_at c).front (letters_at c).sign ∙ rw (front_letters c, sign_letters c) refl

before_digits : (c : Coord) (low : ℕ) → low < 2 ^ 64 → digits_of (before_dots c low) ≡ decimal low
before_digits c low fits = ap digits_of (sym (append-nil (before_dots c low))) ∙ digits_around (front_of c) [] low (record { before = front_of_letters c; behind = refl }) fits

behind_digits : (c : Coord) (high : ℕ) → high < 2 ^ 64 → digits_of (behind_dots c high) ≡ decimal high
behind_digits c high fits = digits_around (codes ".") (end_of c) high (record { before = refl; behind = end_letters c }) fits

between_same : (c : Coord) (low high other another : ℕ) → low < 2 ^ 64 → high < 2 ^ 64 → other < 2 ^ 64 → another < 2 ^ 64 → between c low high ≡ between c other another → (low ≡ other) × (high ≡ another)
between_same c low high other another p q r s same =
    let cuts = sym (cut_between c low high p) ∙ ap (cut_at 46) same ∙ cut_between c other another r in
    let fronts : before_dots c low ≡ before_dots c other = λ i. (cuts i).0 in
    let behinds : Some (behind_dots c high) ≡ Some (behind_dots c another) = λ i. (cuts i).1 in
    let ends : behind_dots c high ≡ behind_dots c another = cc in (
      decimal_injective low other p r (sym (before_digits c low p) ∙ ap digits_of fronts ∙ before_digits c other r),
      decimal_injective high another q s (sym (behind_digits c high q) ∙ ap digits_of ends ∙ behind_digits c another s),
    )

between_mark : (mark : ℕ) (c : Coord) (low high : ℕ) → ((x : ℕ) → is_sign x ≡ false → (x == mark) ≡ false) → is_digit mark ≡ false → low < 2 ^ 64 → high < 2 ^ 64 → has mark (between c low high) ≡ (46 == mark)
between_mark mark c low high is other p q =
    all ∙ rw (
      weaker is_sign (λ x. x == mark) (letters_at c).front is (front_plain c),
      weaker is_sign (λ x. x == mark) (letters_at c).sign is (sign_plain c),
      none_in_decimal (λ x. x == mark) low p (apart is_digit mark other),
      none_in_decimal (λ x. x == mark) high q (apart is_digit mark other),
      weaker is_sign (λ x. x == mark) (letters_at c).end is (end_plain c),
    ) (alone (46 == mark))
  where
    all : has mark (between c low high) ≡ (((has mark (letters_at c).front || has mark (letters_at c).sign) || ((has mark (decimal low) || has mark (codes "..")) || has mark (decimal high))) || has mark (letters_at c).end)
    all = simp (list_any-append)

    alone : (b : Bool) → (((false || false) || ((false || (b || (b || false))) || false)) || false) ≡ b
    alone true = refl
    alone false = refl

-- ---- ranges are told

data Form (c : Coord) (whole : SetOf) (low high : ℕ) (t : List ℕ) : Type 0 where
  one : low ≡ high → t ≡ number_word c low → Form c whole low high t
  below : begins_with whole low ≡ true → t ≡ beside c (codes "<") (high + 1) → Form c whole low high t
  from : ends_with whole high ≡ true → t ≡ beside c (codes ">=") low → Form c whole low high t
  inside : t ≡ between c low high → Form c whole low high t

form_of : (c : Coord) (whole : SetOf) (low high : ℕ) → Form c whole low high (range_text c whole low high)
unfolding range_text
form_of c whole low high = elim (cases_Bool (low == high)) [
  | inl same ↦ rw same (one (eqb-true low high same) refl)
  | inr some ↦ rw some (elim (cases_Bool (begins_with whole low)) [
    | inl begins ↦ rw begins (below begins refl)
    | inr other ↦ rw other (elim (cases_Bool (ends_with whole high)) [
      | inl ends ↦ rw ends (from ends refl)
      | inr neither ↦ rw neither (inside refl)
    ])
  ])
]

-- how a text shows its form
abbrev way_of : List ℕ → ℕ
way_of text = if has 60 text then 1 else if has 62 text then 2 else if has 46 text then 3 else 0

abbrev way : {c : Coord} {whole : SetOf} {low high : ℕ} {t : List ℕ} → Form c whole low high t → ℕ
way (one same is) = 0
way (below begins is) = 1
way (from ends is) = 2
way (inside is) = 3

-- the ends of a range, which have a next number
pub record AreEnds (low high : ℕ) : Type 0 where
  pub up : low ≤ high
  pub fits : high + 1 < 2 ^ 64

told_way : (c : Coord) (whole : SetOf) (low high : ℕ) (t : List ℕ) → AreEnds low high → (f : Form c whole low high t) → way_of t ≡ way f
told_way c whole low high t ends (one same is) =
    let up = ends.up in
    let fits = ends.fits in
    let plain = number_plain c low (omega arith) in
    rw (is, weaker is_sign (λ x. x == 60) (number_word c low) less_sign plain, weaker is_sign (λ x. x == 62) (number_word c low) greater_sign plain, weaker is_sign (λ x. x == 46) (number_word c low) dot_sign plain) refl
told_way c whole low high t ends (below begins is) = rw (is, beside_has 60 c (codes "<") (high + 1) less_sign refl ends.fits) refl
told_way c whole low high t ends (from ends_there is) =
    let up = ends.up in
    let fits = ends.fits in
    rw (is, beside_has 60 c (codes ">=") low less_sign refl (omega arith), beside_has 62 c (codes ">=") low greater_sign refl (omega arith)) refl
told_way c whole low high t ends (inside is) =
    let up = ends.up in
    let fits = ends.fits in
    rw (
      is,
      between_mark 60 c low high less_sign refl (omega arith) (omega arith),
      between_mark 62 c low high greater_sign refl (omega arith) (omega arith),
      between_mark 46 c low high dot_sign refl (omega arith) (omega arith),
    ) refl

begin_same : (whole : SetOf) (low other : ℕ) → begins_with whole low ≡ true → begins_with whole other ≡ true → low ≡ other
begin_same (RangeOf a b) low other p q = sym (eqb-true a low p) ∙ eqb-true a other q
begin_same (NumbersOf numbers) low other p q = absurd cc
begin_same (LocalesOf numbers) low other p q = absurd cc

end_same : (whole : SetOf) (high other : ℕ) → ends_with whole high ≡ true → ends_with whole other ≡ true → high ≡ other
end_same (RangeOf a b) high other p q = sym (eqb-true b high p) ∙ eqb-true b other q
end_same (NumbersOf numbers) high other p q = absurd cc
end_same (LocalesOf numbers) high other p q = absurd cc

forms_same : (c : Coord) (whole : SetOf) (low high other another : ℕ) (t : List ℕ) → AreEnds low high → AreEnds other another
    → Form c whole low high t → Form c whole other another t → (low ≡ other) × (high ≡ another)
forms_same c whole low high other another t p q (one same is) (one also equal) =
    let up = p.up in
    let fits = p.fits in
    let up_too = q.up in
    let fits_too = q.fits in
    let numbers = number_tells c low other (omega arith) (omega arith) (sym is ∙ equal) in
    (numbers, sym same ∙ numbers ∙ also)
forms_same c whole low high other another t p q (below begins is) (below also equal) =
    let numbers = beside_same c (codes "<") (high + 1) (another + 1) refl p.fits q.fits (sym is ∙ equal) in
    (begin_same whole low other begins also, omega (arith, numbers))
forms_same c whole low high other another t p q (from ends is) (from also equal) =
    let up = p.up in
    let fits = p.fits in
    let up_too = q.up in
    let fits_too = q.fits in
    (beside_same c (codes ">=") low other refl (omega arith) (omega arith) (sym is ∙ equal), end_same whole high another ends also)
forms_same c whole low high other another t p q (inside is) (inside equal) =
    let up = p.up in
    let fits = p.fits in
    let up_too = q.up in
    let fits_too = q.fits in
    between_same c low high other another (omega arith) (omega arith) (omega arith) (omega arith) (sym is ∙ equal)
forms_same c whole low high other another t p q f g = absurd (let ways = sym (told_way c whole low high t p f) ∙ told_way c whole other another t q g in omega (arith, ways))

pub range_same : (c : Coord) (whole : SetOf) (low high other another : ℕ) → AreEnds low high → AreEnds other another → range_text c whole low high ≡ range_text c whole other another → (low ≡ other) × (high ≡ another)
range_same c whole low high other another p q same =
    forms_same c whole low high other another (range_text c whole other another) p q
    (subst (λ (t : List ℕ). Form c whole low high t) same (form_of c whole low high)) (form_of c whole other another)
