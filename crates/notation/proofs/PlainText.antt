-- The text of a locale stands in JSON as it is.
use Rattle.std.proofs.Common.{◌≡◌, ℕ, zero, suc, ◌/◌, ◌%◌, ◌<◌, ◌≤◌, ◌==◌, ◌&&◌, ◌||◌, not, nat_le, Bool, true, false, cond, List, [], ◌∷◌, ◌++◌, slice_index, Some, None, is_some, IsUtf8, refl, arith}
use Rattle.std.specs.Str.{IsAscii}
use Rattle.std.proofs.lemmas.Bool.{and_parts, leb-true}
use Rattle.std.proofs.lemmas.List.Sums.{AllPass-from_list_all}
use Rattle.std.proofs.lemmas.Str.{IsUtf8-from_ascii}
use Rattle.std.proofs.lemmas.Str.Ascii.{IsAscii-nil, IsAscii-cons}
use Rattle.hex.specs.Hex.{IsBytes, encode_lower, encode_with, lower_digits}
use Rattle.json.specs.Print.{escape, escape_byte}
use Rattle.json.proofs.Printed.Strings.{escape_byte_plain}
use Rattle.config_record.specs.locales.declared.locale.Locale.{Locale}
use Rattle.config_record.specs.locales.Locale.{dash, first_letter, first_digit, is_small_letter, is_capital_letter, is_digit, packed, part_of, language_of, region_of, no_part, unpacked, is_spelled, language_text, region_text, plain_text}
use Rattle.config_record.specs.locales.Zero.{is_zero}
use Rattle.config_record.specs.locales.Words.{number_of_script}
use Rattle.config_record.specs.locales.Text.{written_script, likely_number, language_alone, region_alone, text_with_script, shows_script, locale_text}

-- a byte that stands in JSON as it is
pub record IsPlain (b : ℕ) : Type 0 where
  pub ascii : b < 128
  pub same : escape_byte b ≡ b ∷ []

abbrev pub ArePlain : List ℕ → Type 0
ArePlain [] = Unit {0}
ArePlain (b ∷ bytes) = IsPlain b × ArePlain bytes

plain-append : (front back : List ℕ) → ArePlain front → ArePlain back → ArePlain (front ++ back)
plain-append [] back p q = q
plain-append (b ∷ front) back p q = (p.0, plain-append front back p.1 q)

pub plain-escape : (bytes : List ℕ) → ArePlain bytes → escape bytes ≡ bytes
plain-escape [] p = refl
plain-escape (b ∷ bytes) p = rw (p.0.same, plain-escape bytes p.1) refl

plain-ascii : (bytes : List ℕ) → ArePlain bytes → IsAscii bytes
plain-ascii [] p = IsAscii-nil
plain-ascii (b ∷ bytes) p = IsAscii-cons b bytes p.0.ascii (plain-ascii bytes p.1)

pub plain-utf8 : (bytes : List ℕ) → ArePlain bytes → IsUtf8 bytes
plain-utf8 bytes p = IsUtf8-from_ascii bytes (plain-ascii bytes p)

-- ---- letters, digits and dashes

plain-at : (b : ℕ) → 35 ≤ b → b < 128 → (b ≡ 92 → ⊥) → IsPlain b
plain-at b least most other = record { ascii = most; same = escape_byte_plain b (λ h. omega arith) other (omega arith) }

between : (low high b : ℕ) → (nat_le low b && nat_le b high) ≡ true → (low ≤ b) × (b ≤ high)
between low high b e = let parts = and_parts (nat_le low b) (nat_le b high) e in (leb-true low b parts.0, leb-true b high parts.1)

small-plain : (b : ℕ) → is_small_letter b ≡ true → IsPlain b
small-plain b e = let at = between first_letter 122 b e in plain-at b (omega arith) (omega arith) (λ h. omega arith)

capital-plain : (b : ℕ) → is_capital_letter b ≡ true → IsPlain b
capital-plain b e = let at = between 65 90 b e in plain-at b (omega arith) (omega arith) (λ h. omega arith)

digit-plain : (b : ℕ) → is_digit b ≡ true → IsPlain b
digit-plain b e = let at = between first_digit 57 b e in plain-at b (omega arith) (omega arith) (λ h. omega arith)

dash-plain : IsPlain dash
dash-plain = plain-at dash (omega arith) (omega arith) (λ h. omega arith)

-- ---- a language, and a region

chosen : (c : Bool) (part : List ℕ) → is_some (cond c (Some part) None) ≡ true → c ≡ true
chosen true part e = refl
chosen false part e = absurd cc

part-plain : (two three : ℕ → Bool) (base : ℕ) → ((b : ℕ) → two b ≡ true → IsPlain b) → ((b : ℕ) → three b ≡ true → IsPlain b)
    → (symbols : List ℕ) → is_some (part_of two three base symbols) ≡ true → ArePlain symbols
part-plain two three base p q [] e = tt
part-plain two three base p q (a ∷ []) e = absurd cc
part-plain two three base p q (a ∷ b ∷ []) e =
    let h = and_parts (two a) (two b) (chosen (two a && two b) (a ∷ b ∷ []) e) in
    (p a h.0, (p b h.1, tt))
part-plain two three base p q (a ∷ b ∷ c ∷ []) e =
    let h = and_parts (three a && three b) (three c) (chosen (three a && three b && three c) (packed base a b c) e) in
    let k = and_parts (three a) (three b) h.0 in
    (q a k.0, (q b k.1, (q c h.1, tt)))
part-plain two three base p q (a ∷ b ∷ c ∷ d ∷ symbols) e = absurd cc

language-plain : (symbols : List ℕ) → is_some (language_of symbols) ≡ true → ArePlain symbols
language-plain symbols e = part-plain is_small_letter is_small_letter first_letter small-plain small-plain symbols e

region-plain : (symbols : List ℕ) → is_some (region_of symbols) ≡ true → ArePlain symbols
region-plain symbols e = part-plain is_capital_letter is_digit first_digit capital-plain digit-plain symbols e

-- a part that is there, or none
there-plain : (zero some : Bool) (text : List ℕ) → (zero || some) ≡ true → (some ≡ true → ArePlain text) → ArePlain (cond zero [] text)
there-plain true some text e there = tt
there-plain false some text e there = there e

spelled-plain : (language region : List ℕ)
    → (is_zero language || is_some (language_of (unpacked first_letter language))) ≡ true → (is_zero region || is_some (region_of (unpacked first_digit region))) ≡ true
    → ArePlain (language_text language ++ region_text region)
spelled-plain language region l r =
    plain-append (language_text language) (region_text region)
    (there-plain (is_zero language) (is_some (language_of (unpacked first_letter language))) (unpacked first_letter language) l (language-plain (unpacked first_letter language)))
    (there-plain (is_zero region) (is_some (region_of (unpacked first_digit region))) (dash ∷ unpacked first_digit region) r
    (λ e. (dash-plain, region-plain (unpacked first_digit region) e)))

-- ---- or the digits of both

is_digit_or_letter : ℕ → Bool
is_digit_or_letter b = is_small_letter b || is_digit b

digits-plain : (bytes : List ℕ) → IsBytes bytes → ArePlain (encode_lower bytes)
unfolding encode_with is_digit_or_letter
digits-plain [] small = tt
digits-plain (b ∷ bytes) small =
    let fits : b < 256 = small 0 in
    (at (b / 16) (omega arith), (at (b % 16) (omega arith), digits-plain bytes (λ i. small (suc i))))
  where
    by : (letter digit : Bool) (c : ℕ) → is_small_letter c ≡ letter → is_digit c ≡ digit → (letter || digit) ≡ true → IsPlain c
    by true digit c e f g = small-plain c e
    by false true c e f g = digit-plain c f
    by false false c e f g = absurd cc

    at : (k : ℕ) → k < 16 → IsPlain (slice_index lower_digits k)
    at k below =
        let c = slice_index lower_digits k in
        by (is_small_letter c) (is_digit c) c refl refl (AllPass-from_list_all is_digit_or_letter lower_digits refl k 0 below)

-- a locale of bytes
pub record HasBytes (l : Locale) : Type 0 where
  pub language : IsBytes l.language
  pub region : IsBytes l.region

either-plain : (spelled : Bool) (l : Locale) → HasBytes l → is_spelled l ≡ spelled → ArePlain (cond spelled (language_text l.language ++ region_text l.region) (120 ∷ (encode_lower l.language ++ encode_lower l.region)))
either-plain true l small e =
    let h = and_parts (is_zero l.language || is_some (language_of (unpacked first_letter l.language))) (is_zero l.region || is_some (region_of (unpacked first_digit l.region))) e in
    spelled-plain l.language l.region h.0 h.1
either-plain false l small e =
    (plain-at 120 (omega arith) (omega arith) (λ h. omega arith), plain-append (encode_lower l.language) (encode_lower l.region) (digits-plain l.language small.language) (digits-plain l.region small.region))

plain_text-plain : (l : Locale) → HasBytes l → ArePlain (plain_text l)
unfolding plain_text
plain_text-plain l small = either-plain (is_spelled l) l small refl

-- ---- with a script between them

script-plain : (script : List ℕ) → is_some (written_script script) ≡ true → ArePlain script
script-plain [] e = tt
script-plain (a ∷ []) e = absurd cc
script-plain (a ∷ b ∷ []) e = absurd cc
script-plain (a ∷ b ∷ c ∷ []) e = absurd cc
script-plain (a ∷ b ∷ c ∷ d ∷ []) e =
    let are = is_capital_letter a && is_small_letter b && is_small_letter c && is_small_letter d in
    let all = and_parts _ _ (chosen are (a ∷ b ∷ c ∷ d ∷ []) e) in
    let three = and_parts _ _ all.0 in
    let two = and_parts _ _ three.0 in
    (capital-plain a two.0, (small-plain b two.1, (small-plain c three.1, (small-plain d all.1, tt))))
script-plain (a ∷ b ∷ c ∷ d ∷ f ∷ script) e = absurd cc

no_bytes : IsBytes no_part
no_bytes zero = omega arith
no_bytes (suc zero) = omega arith
no_bytes (suc (suc i)) = omega arith

shown-plain : (l : Locale) → HasBytes l → is_some (written_script l.script) ≡ true → ArePlain (text_with_script l)
shown-plain l small written =
    plain-append (plain_text (language_alone l) ++ dash ∷ l.script) (plain_text (region_alone l))
    (plain-append (plain_text (language_alone l)) (dash ∷ l.script)
    (plain_text-plain (language_alone l) (record { language = small.language; region = no_bytes })) (dash-plain, script-plain l.script written))
    (plain_text-plain (region_alone l) (record { language = no_bytes; region = small.region }))

text-plain : (l : Locale) (shown : Bool) → HasBytes l → shows_script l ≡ shown → ArePlain (cond shown (text_with_script l) (plain_text l))
text-plain l true small e = shown-plain l small (and_parts (is_some (written_script l.script)) (not (number_of_script l.script == likely_number l)) e).0
text-plain l false small e = plain_text-plain l small

pub locale_text-plain : (l : Locale) → HasBytes l → ArePlain (locale_text l)
unfolding locale_text
locale_text-plain l small = text-plain l (shows_script l) small refl
