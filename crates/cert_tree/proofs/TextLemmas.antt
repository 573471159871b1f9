-- The texts of locales are UTF-8.
use Rattle.std.proofs.Common.{◌≡◌, ℕ, ◌<◌, Bool, true, false, ◌&&◌, ◌||◌, ◌==◌, not, cond, List, [], ◌∷◌, ◌++◌, Some, None, is_some, IsUtf8, refl, arith}
use Rattle.std.specs.Str.{IsAscii}
use Rattle.std.proofs.lemmas.Bool.{and_parts}
use Rattle.std.proofs.lemmas.Str.{IsUtf8-from_ascii, IsAscii-append}
use Rattle.std.proofs.lemmas.Str.Ascii.{IsAscii-nil, IsAscii-cons}
use Rattle.hex.specs.Hex.{encode_lower}
use Rattle.config_box.specs.config_record.locales.declared.locale.Locale.{Locale}
use Rattle.config_box.specs.config_record.locales.Locale.{dash, first_letter, first_digit, is_small_letter, is_capital_letter, is_digit, packed, part_of, language_of, region_of, unpacked, is_spelled, language_text, region_text, plain_text}
use Rattle.config_box.specs.config_record.locales.Zero.{is_zero}
use Rattle.config_box.specs.config_record.locales.Words.{number_of_script}
use Rattle.config_box.specs.config_record.locales.Text.{written_script, likely_number, language_alone, region_alone, text_with_script, shows_script, locale_text}
use Rattle.config_box.proofs.config_record.locales.LocaleLemmas.{of_languages, of_regions}
use Rattle.res_value.proofs.IdText.{digits-ascii}

-- ---- locales

chosen : (c : Bool) (part : List ℕ) → is_some (cond c (Some part) None) ≡ true → c ≡ true
chosen true part e = refl
chosen false part e = absurd cc

-- the symbols of a part
symbols-ascii : (two three : ℕ → Bool) (base : ℕ) → ((b : ℕ) → two b ≡ true → b < 128) → ((b : ℕ) → three b ≡ true → b < 128)
    → (symbols : List ℕ) → is_some (part_of two three base symbols) ≡ true → IsAscii symbols
symbols-ascii two three base p q [] e = IsAscii-nil
symbols-ascii two three base p q (a ∷ []) e = absurd cc
symbols-ascii two three base p q (a ∷ b ∷ []) e =
    let h = and_parts (two a) (two b) (chosen (two a && two b) (a ∷ b ∷ []) e) in
    IsAscii-cons a (b ∷ []) (p a h.0) (IsAscii-cons b [] (p b h.1) IsAscii-nil)
symbols-ascii two three base p q (a ∷ b ∷ c ∷ []) e =
    let h = and_parts (three a && three b) (three c) (chosen (three a && three b && three c) (packed base a b c) e) in
    let k = and_parts (three a) (three b) h.0 in
    IsAscii-cons a (b ∷ c ∷ []) (q a k.0) (IsAscii-cons b (c ∷ []) (q b k.1) (IsAscii-cons c [] (q c h.1) IsAscii-nil))
symbols-ascii two three base p q (a ∷ b ∷ c ∷ d ∷ symbols) e = absurd cc

small-ascii : (b : ℕ) → is_small_letter b ≡ true → b < 128
small-ascii b e = (of_languages.one_of_two b e).1

capital-ascii : (b : ℕ) → is_capital_letter b ≡ true → b < 128
capital-ascii b e = (of_regions.one_of_two b e).1

digit-ascii : (b : ℕ) → is_digit b ≡ true → b < 128
digit-ascii b e = let r = of_regions.one_of_three b e in omega (arith, r.1)

language-ascii : (symbols : List ℕ) → is_some (language_of symbols) ≡ true → IsAscii symbols
language-ascii symbols e = symbols-ascii is_small_letter is_small_letter first_letter small-ascii small-ascii symbols e

region-ascii : (symbols : List ℕ) → is_some (region_of symbols) ≡ true → IsAscii symbols
region-ascii symbols e = symbols-ascii is_capital_letter is_digit first_digit capital-ascii digit-ascii symbols e

-- a part that is there, or none
part-ascii : (zero some : Bool) (text : List ℕ) → (zero || some) ≡ true → (some ≡ true → IsAscii text) → IsAscii (cond zero [] text)
part-ascii true some text e there = IsAscii-nil
part-ascii false some text e there = there e

spelled-ascii : (language region : List ℕ)
    → (is_zero language || is_some (language_of (unpacked 97 language))) ≡ true → (is_zero region || is_some (region_of (unpacked 48 region))) ≡ true
    → IsAscii (language_text language ++ region_text region)
spelled-ascii language region l r =
    IsAscii-append (language_text language) (region_text region)
    (part-ascii (is_zero language) (is_some (language_of (unpacked 97 language))) (unpacked 97 language) l (language-ascii (unpacked 97 language)))
    (part-ascii (is_zero region) (is_some (region_of (unpacked 48 region))) (45 ∷ unpacked 48 region) r
    (λ e. IsAscii-cons 45 (unpacked 48 region) (omega arith) (region-ascii (unpacked 48 region) e)))

other-ascii : (language region : List ℕ) → IsAscii (120 ∷ (encode_lower language ++ encode_lower region))
other-ascii language region =
    IsAscii-cons 120 (encode_lower language ++ encode_lower region) (omega arith)
    (IsAscii-append (encode_lower language) (encode_lower region) (digits-ascii language) (digits-ascii region))

either-ascii : (spelled : Bool) (l : Locale) → is_spelled l ≡ spelled → IsAscii (cond spelled (language_text l.language ++ region_text l.region) (120 ∷ (encode_lower l.language ++ encode_lower l.region)))
either-ascii true l e =
    let h = and_parts (is_zero l.language || is_some (language_of (unpacked 97 l.language))) (is_zero l.region || is_some (region_of (unpacked 48 l.region))) e in
    spelled-ascii l.language l.region h.0 h.1
either-ascii false l e = other-ascii l.language l.region

plain_text-ascii : (l : Locale) → IsAscii (plain_text l)
unfolding plain_text
plain_text-ascii l = either-ascii (is_spelled l) l refl

letters : (a b c d : ℕ) → is_some (written_script (a ∷ b ∷ c ∷ d ∷ [])) ≡ true → (is_capital_letter a && is_small_letter b && is_small_letter c && is_small_letter d) ≡ true
letters a b c d e = where_some (is_capital_letter a && is_small_letter b && is_small_letter c && is_small_letter d) e
  where
    where_some : (are : Bool) → is_some (cond are (Some (a ∷ b ∷ c ∷ d ∷ [])) None) ≡ true → are ≡ true
    where_some true e = refl
    where_some false e = absurd cc

script-ascii : (script : List ℕ) → is_some (written_script script) ≡ true → IsAscii script
script-ascii [] e = IsAscii-nil
script-ascii (a ∷ []) e = absurd cc
script-ascii (a ∷ b ∷ []) e = absurd cc
script-ascii (a ∷ b ∷ c ∷ []) e = absurd cc
script-ascii (a ∷ b ∷ c ∷ d ∷ []) e =
    let all = and_parts _ _ (letters a b c d e) in
    let three = and_parts _ _ all.0 in
    let two = and_parts _ _ three.0 in
    IsAscii-cons a (b ∷ c ∷ d ∷ []) (capital-ascii a two.0) (IsAscii-cons b (c ∷ d ∷ []) (small-ascii b two.1) (IsAscii-cons c (d ∷ []) (small-ascii c three.1) (IsAscii-cons d [] (small-ascii d all.1) IsAscii-nil)))
script-ascii (a ∷ b ∷ c ∷ d ∷ f ∷ script) e = absurd cc

shown-ascii : (l : Locale) → is_some (written_script l.script) ≡ true → IsAscii (text_with_script l)
shown-ascii l written =
    IsAscii-append (plain_text (language_alone l) ++ dash ∷ l.script) (plain_text (region_alone l))
    (IsAscii-append (plain_text (language_alone l)) (dash ∷ l.script) (plain_text-ascii (language_alone l)) (IsAscii-cons dash l.script (omega arith) (script-ascii l.script written)))
    (plain_text-ascii (region_alone l))

text-ascii : (l : Locale) (shown : Bool) → shows_script l ≡ shown → IsAscii (cond shown (text_with_script l) (plain_text l))
text-ascii l true e = shown-ascii l (and_parts (is_some (written_script l.script)) (not (number_of_script l.script == likely_number l)) e).0
text-ascii l false e = plain_text-ascii l

pub locale_text-utf8 : (l : Locale) → IsUtf8 (locale_text l)
unfolding locale_text
locale_text-utf8 l = IsUtf8-from_ascii (locale_text l) (text-ascii l (shows_script l) refl)
