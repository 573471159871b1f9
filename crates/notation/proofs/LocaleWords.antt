-- The words of locales.
use Rattle.std.proofs.Common.{◌≡◌, ◌≢◌, ℕ, zero, suc, ◌^◌, ◌<◌, ◌==◌, ◌&&◌, ◌||◌, not, Bool, true, false, if◌then◌else◌, List, [], ◌∷◌, ◌++◌, codes, length, drop, slice_index, Option, Some, None, is_some, Ok, refl, sym, ap, subst, ◌∙◌, inl, inr, arith}
use Rattle.std.specs.List.{flat_map}
use Rattle.std.proofs.lemmas.Bool.{cases_Bool, and_parts, eqb-true, ne_eqb}
use Rattle.std.proofs.lemmas.List.{append-nil}
use Rattle.std.proofs.lemmas.List.Folds.{list_any-append}
use Rattle.std.proofs.lemmas.Nat.{from_be_bytes-to_be_bytes_8}
use Rattle.hex.specs.Hex.{encode_lower, is_hex_digit, IsBytes}
use Rattle.config_record.specs.locales.declared.locale.Locale.{Locale}
use Rattle.config_record.specs.locales.declared.locale_rule.LocaleRule.{LocaleRule}
use Rattle.config_record.specs.locales.LocaleRule.{rule_of}
use Rattle.config_record.specs.locales.Zero.{is_zero}
use Rattle.config_record.specs.locales.Locale.{dash, is_small_letter, is_capital_letter, is_digit, first_letter, first_digit, unpacked, is_spelled, language_text, region_text, plain_text}
use Rattle.config_record.specs.locales.LocaleNumber.{locale_number, locale_of_number}
use Rattle.config_record.specs.locales.Text.{written_script, language_alone, region_alone, shows_script, likely_number, locale_by, locale_text, IsGiven, IsGivenBy}
use Rattle.config_record.specs.locales.Words.{number_of_script}
use Rattle.notation.specs.Cut.{cut_at, behind_sign}
use Rattle.notation.specs.LocaleParts.{is_other_word}
use Rattle.notation.specs.LocaleWord.{is_region, plus, with_plus, word_by, text_word, locale_word}
use Rattle.notation.specs.DevicesNotation.{comma}
use Rattle.notation.proofs.Digits.{no_mark}
use Rattle.notation.proofs.LocaleTexts.{cut_at-behind, cut_at-whole, is_region_letter, region_letters, IsSpelled, spelled_of, hex-all}
use Rattle.notation.proofs.LocalePieces.{is_script_letter, script_letters, neither}
use Rattle.notation.proofs.ListedWords.{has, blank, AreWords}

-- ---- the text of a word

-- a text is cut at its first dash
record IsCut (text xs : List ℕ) : Type 0 where
  behind : List ℕ
  is : text ≡ xs ++ dash ∷ behind
  none : has dash xs ≡ false

abbrev Cut : List ℕ → Type 0
Cut text = (xs : List ℕ) × IsCut text xs

cut_of : (text : List ℕ) → has dash text ≡ true → Cut text
cut_of [] there = absurd cc
cut_of (x ∷ xs) there = elim (cases_Bool (x == dash)) [
  | inl here ↦ ([], record { behind = xs; is = ap (λ (b : ℕ). b ∷ xs) (eqb-true x dash here); none = refl })
  | inr other ↦ let further = cut_of xs (rw other at there) in (x ∷ further.0, record { behind = further.1.behind; is = ap (λ (t : List ℕ). x ∷ t) further.1.is; none = rw (other, further.1.none) refl })
]

abbrev dash_for_plus : ℕ → List ℕ
dash_for_plus b = (if b == plus then dash else b) ∷ []

abbrev without_r : List ℕ × Option (List ℕ) → List ℕ
without_r (language, None) = language
without_r (language, Some others) = if slice_index others 0 == 114 then language ++ dash ∷ drop 1 others else []

-- the text of which a word is made
abbrev text_of : List ℕ → List ℕ
text_of word = if has plus word then drop 2 (flat_map dash_for_plus word) else without_r (cut_at dash word)

with_dashes : (text : List ℕ) → has plus text ≡ false → flat_map dash_for_plus (flat_map with_plus text) ≡ text
unfolding with_plus
with_dashes [] none = refl
with_dashes (x ∷ xs) none = elim (cases_Bool (x == plus)) [
  | inl there ↦ absurd (let found = rw there at none in cc)
  | inr other ↦ (
      let tail = with_dashes xs (rw other at none) in
      elim (cases_Bool (x == dash)) [
        | inl cut ↦ rw (cut, tail) (ap (λ (b : ℕ). b ∷ xs) (sym (eqb-true x dash cut)))
        | inr it ↦ rw (it, other, tail) refl
      ]
      )
]

tag_back : (text : List ℕ) → has plus text ≡ false → text_of (codes "b+" ++ flat_map with_plus text) ≡ text
tag_back text none = rw (with_dashes text none) refl

region_back : (text : List ℕ) (there : Bool) → has dash text ≡ there → has plus text ≡ false → text_of ((cut_at dash text).0 ++ behind_sign (codes "-r") (cut_at dash text).1) ≡ text
region_back text false e none =
    let cut = cut_at-whole dash text e in
    rw (cut, append-nil text, none, cut) refl
region_back text true e none =
    let found = cut_of text e in
    let xs = found.0 in
    let ys = found.1.behind in
    let cut : cut_at dash text ≡ (xs, Some ys) = ap (cut_at dash) found.1.is ∙ cut_at-behind dash xs ys found.1.none in
    let parts : (has plus xs || (false || has plus ys)) ≡ false = sym (list_any-append (λ x. x == plus) xs (dash ∷ ys)) ∙ ap (has plus) (sym found.1.is) ∙ none in
    let no_plus : has plus (xs ++ dash ∷ 114 ∷ ys) ≡ false = list_any-append (λ x. x == plus) xs (dash ∷ 114 ∷ ys) ∙ parts in
    rw (cut, no_plus, cut_at-behind dash xs (114 ∷ ys) found.1.none) (sym found.1.is)

no_locale_back : text_of (codes "no-locale") ≡ []
no_locale_back = refl

text_back : (text : List ℕ) → has plus text ≡ false → text_of (text_word text) ≡ text
unfolding text_word
text_back [] none = no_locale_back
text_back (x ∷ xs) none = rw (ne_eqb (length (x ∷ xs)) 0 (λ e. omega arith)) (by (is_region parts.1 && not (is_other_word parts.0)) refl)
  where
    parts : List ℕ × Option (List ℕ)
    parts = cut_at dash (x ∷ xs)

    by : (test : Bool) → (is_region parts.1 && not (is_other_word parts.0)) ≡ test → text_of (word_by (x ∷ xs) parts) ≡ x ∷ xs
    by true e = rw e (region_back (x ∷ xs) (has dash (x ∷ xs)) refl none)
    by false e = rw e (tag_back (x ∷ xs) none)

-- ---- what is not in the text of a locale

-- a mark that is no letter, no digit and no dash
record IsOther (mark : ℕ) : Type 0 where
  small : is_small_letter mark ≡ false
  capital : is_capital_letter mark ≡ false
  digit : is_digit mark ≡ false
  hex : is_hex_digit mark ≡ false
  no_dash : (dash == mark) ≡ false
  no_x : (120 == mark) ≡ false

pub record OfBytes (l : Locale) : Type 0 where
  pub language : IsBytes l.language
  pub region : IsBytes l.region

module _ (mark : ℕ) (other : IsOther mark) where
  region_letter : is_region_letter mark ≡ false
  region_letter = rw (other.capital, other.digit) refl

  language_none : (language region : List ℕ) → IsSpelled language region → has mark (language_text language) ≡ false
  language_none language region is = elim (cases_Bool (is_zero language)) [
    | inl none ↦ rw none refl
    | inr some ↦ rw some (no_mark is_small_letter mark (unpacked first_letter language) other.small (is.language_letters some).all)
  ]

  region_none : (language region : List ℕ) → IsSpelled language region → has mark (region_text region) ≡ false
  region_none language region is = elim (cases_Bool (is_zero region)) [
    | inl none ↦ rw none refl
    | inr some ↦ rw (some, other.no_dash) (no_mark is_region_letter mark (unpacked first_digit region) region_letter (region_letters (unpacked first_digit region) (is.region_letters some)))
  ]

  hex_none : (bytes : List ℕ) → IsBytes bytes → has mark (encode_lower bytes) ≡ false
  hex_none bytes is = no_mark is_hex_digit mark (encode_lower bytes) other.hex (hex-all bytes is)

  plain_none : (l : Locale) → OfBytes l → has mark (plain_text l) ≡ false
  unfolding plain_text
  plain_none l is = elim (cases_Bool (is_spelled l)) [
    | inl spelled ↦
        let letters = spelled_of l spelled in
        rw spelled (neither (λ x. x == mark) (language_text l.language) (region_text l.region) (language_none l.language l.region letters) (region_none l.language l.region letters))
    | inr digits ↦
        rw digits
        (neither (λ x. x == mark) (codes "x" ++ encode_lower l.language) (encode_lower l.region)
        (neither (λ x. x == mark) (codes "x") (encode_lower l.language) (rw other.no_x refl) (hex_none l.language is.language))
        (hex_none l.region is.region))
  ]

  script_none : (script : List ℕ) → is_some (written_script script) ≡ true → has mark script ≡ false
  script_none script some = no_mark is_script_letter mark script (rw (other.capital, other.small) refl) (script_letters script some).0

  no_bytes : IsBytes (0 ∷ 0 ∷ [])
  no_bytes zero = omega arith
  no_bytes (suc zero) = omega arith
  no_bytes (suc (suc i)) = omega arith

  text_none : (l : Locale) → OfBytes l → has mark (locale_text l) ≡ false
  unfolding locale_text
  text_none l is = elim (cases_Bool (shows_script l)) [
    | inl shown ↦
        let parts = and_parts (is_some (written_script l.script)) (not (number_of_script l.script == likely_number l)) shown in
        let front = plain_none (language_alone l) (record { language = is.language; region = no_bytes }) in
        let end = plain_none (region_alone l) (record { language = no_bytes; region = is.region }) in
        rw shown
        (neither (λ x. x == mark) (plain_text (language_alone l) ++ dash ∷ l.script) (plain_text (region_alone l))
        (neither (λ x. x == mark) (plain_text (language_alone l)) (dash ∷ l.script) front (rw other.no_dash (script_none l.script parts.0))) end)
    | inr plain ↦ rw plain (plain_none l is)
  ]

-- ---- what is not in a word

module _ (mark : ℕ) (other : IsOther mark) (no_plus : (plus == mark) ≡ false) (no_locale : has mark (codes "no-locale") ≡ false) (no_b : (98 == mark) ≡ false) (no_r : (114 == mark) ≡ false) where
  pluses_none : (text : List ℕ) → has mark text ≡ false → has mark (flat_map with_plus text) ≡ false
  unfolding with_plus
  pluses_none [] none = refl
  pluses_none (x ∷ xs) none = elim (cases_Bool (x == mark)) [
    | inl there ↦ absurd (let found = rw there at none in cc)
    | inr it ↦ (
        let tail = pluses_none xs (rw it at none) in
        elim (cases_Bool (x == dash)) [
          | inl cut ↦ rw (cut, no_plus, tail) refl
          | inr uncut ↦ rw (uncut, it, tail) refl
        ]
        )
  ]

  tag_none : (text : List ℕ) → has mark text ≡ false → has mark (codes "b+" ++ flat_map with_plus text) ≡ false
  tag_none text none = rw (no_b, no_plus, pluses_none text none) refl

  region_word_none : (text : List ℕ) (there : Bool) → has dash text ≡ there → has mark text ≡ false → has mark ((cut_at dash text).0 ++ behind_sign (codes "-r") (cut_at dash text).1) ≡ false
  region_word_none text false e none = rw (cut_at-whole dash text e, append-nil text, none) refl
  region_word_none text true e none =
      let found = cut_of text e in
      let xs = found.0 in
      let ys = found.1.behind in
      let cut : cut_at dash text ≡ (xs, Some ys) = ap (cut_at dash) found.1.is ∙ cut_at-behind dash xs ys found.1.none in
      let parts : (has mark xs || ((dash == mark) || has mark ys)) ≡ false = sym (list_any-append (λ x. x == mark) xs (dash ∷ ys)) ∙ ap (has mark) (sym found.1.is) ∙ none in
      let apart : (has mark xs || has mark ys) ≡ false = rw other.no_dash at parts in
      rw cut (list_any-append (λ x. x == mark) xs (dash ∷ 114 ∷ ys) ∙ rw (other.no_dash, no_r) apart)

  word_none : (text : List ℕ) → has mark text ≡ false → has mark (text_word text) ≡ false
  unfolding text_word
  word_none [] none = no_locale
  word_none (x ∷ xs) none = rw (ne_eqb (length (x ∷ xs)) 0 (λ e. omega arith)) (by (is_region parts.1 && not (is_other_word parts.0)) refl)
    where
      parts : List ℕ × Option (List ℕ)
      parts = cut_at dash (x ∷ xs)

      by : (test : Bool) → (is_region parts.1 && not (is_other_word parts.0)) ≡ test → has mark (word_by (x ∷ xs) parts) ≡ false
      by true e = rw e (region_word_none (x ∷ xs) (has dash (x ∷ xs)) refl none)
      by false e = rw e (tag_none (x ∷ xs) none)

comma_other : IsOther comma
comma_other = record { small = refl; capital = refl; digit = refl; hex = refl; no_dash = refl; no_x = refl }

blank_other : IsOther blank
blank_other = record { small = refl; capital = refl; digit = refl; hex = refl; no_dash = refl; no_x = refl }

plus_other : IsOther plus
plus_other = record { small = refl; capital = refl; digit = refl; hex = refl; no_dash = refl; no_x = refl }

no_empty_word : (text : List ℕ) → has plus text ≡ false → text_word text ≢ []
unfolding text_word
no_empty_word [] none e = cc
no_empty_word (x ∷ xs) none e = let back : [] ≡ x ∷ xs = ap text_of (sym e) ∙ text_back (x ∷ xs) none in cc

some_length : (text : List ℕ) → text ≢ [] → 0 < length text
some_length [] some = absurd (some refl)
some_length (x ∷ xs) some = omega arith

-- ---- of numbers

two_bytes : (a b : ℕ) → a < 256 → b < 256 → IsBytes (a ∷ b ∷ [])
two_bytes a b p q zero = p
two_bytes a b p q (suc zero) = q
two_bytes a b p q (suc (suc i)) = omega arith

bytes_of : (n : ℕ) → OfBytes (locale_of_number n)
unfolding locale_of_number
bytes_of n = record { language = two_bytes _ _ (omega arith) (omega arith); region = two_bytes _ _ (omega arith) (omega arith) }

number_back : (n : ℕ) → n < 2 ^ 64 → locale_number (locale_of_number n) ≡ n
unfolding locale_number locale_of_number
number_back n fits = from_be_bytes-to_be_bytes_8 n fits

-- the number of a locale that a text gives by a rule
pub record IsOfRule (rule : LocaleRule) (n : ℕ) : Type 0 where
  pub fits : n < 2 ^ 64
  pub given : IsGiven (locale_of_number n)
  pub by_rule : rule_of (locale_of_number n) ≡ rule

text_reads : (rule : LocaleRule) (n : ℕ) → IsOfRule rule n → locale_by rule (locale_text (locale_of_number n)) ≡ Ok (locale_of_number n)
text_reads rule n is = subst (λ (r : LocaleRule). IsGivenBy r (locale_of_number n)) is.by_rule is.given

word_same : (rule : LocaleRule) (n m : ℕ) → IsOfRule rule n → IsOfRule rule m → locale_word n ≡ locale_word m → n ≡ m
unfolding locale_word
word_same rule n m p q same =
    let one = locale_of_number n in
    let other = locale_of_number m in
    let texts : locale_text one ≡ locale_text other =
    sym (text_back (locale_text one) (text_none plus plus_other one (bytes_of n))) ∙ ap text_of same ∙ text_back (locale_text other) (text_none plus plus_other other (bytes_of m)) in
    let reads = sym (text_reads rule n p) ∙ ap (locale_by rule) texts ∙ text_reads rule m q in
    let locales : one ≡ other = cc in
    sym (number_back n p.fits) ∙ ap locale_number locales ∙ number_back m q.fits

pub locales_are_words : (rule : LocaleRule) → AreWords locale_word (IsOfRule rule)
unfolding locale_word
locales_are_words rule =
    let text : ℕ → List ℕ = λ n. locale_text (locale_of_number n) in
    record {
      no_comma = λ n is. word_none comma comma_other refl refl refl refl (text n) (text_none comma comma_other (locale_of_number n) (bytes_of n));
      no_blank = λ n is. word_none blank blank_other refl refl refl refl (text n) (text_none blank blank_other (locale_of_number n) (bytes_of n));
      some = λ n is. some_length (text_word (text n)) (no_empty_word (text n) (text_none plus plus_other (locale_of_number n) (bytes_of n)));
      same = word_same rule;
    }
