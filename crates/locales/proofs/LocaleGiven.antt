-- A locale whose bytes pass the check is given by the text that is printed of it.
use Rattle.std.proofs.Common.{◌≡◌, ℕ, zero, suc, ◌+◌, ◌-◌, ◌*◌, ◌/◌, ◌%◌, ◌<◌, ◌≤◌, Bool, true, false, ◌&&◌, ◌||◌, cond, if◌then◌else◌, nat_lt, List, [], ◌∷◌, ◌++◌, length, get_or, take, drop, position, ◌==◌, Option, Some, None, Result, Ok, is_some, not, refl, sym, ap, subst, ◌∙◌, arith, length-append}
use Rattle.std.specs.List.{position_or_len}
use Rattle.std.proofs.lemmas.List.{append-nil}
use Rattle.std.proofs.Math.Seq.{take-append_seam, drop-append-add}
use Rattle.std.proofs.lemmas.Bool.{eqb-true, ltb-false, le-ltb, lt-ltb, and_parts, not-false}
use Rattle.std.proofs.lemmas.Bool.Decides.{nat_tests}
use Rattle.std.proofs.lemmas.Nat.{be_bytes_8}
use Rattle.std.specs.Int.{w64, from_be_bytes, to_be_bytes}
use Rattle.locales.specs.declared.locale.Locale.{Locale}
use Rattle.locales.specs.declared.locale.LocaleFault.{LocaleFault}
use Rattle.locales.specs.Zero.{is_zero}
use Rattle.locales.specs.LocaleNumber.{locale_number, locale_of_number}
use Rattle.locales.specs.Locale.{first_letter, first_digit, dash, packed, part_of, language_of, region_of, no_part, no_script, without_script, unpacked, is_spelled, locale_faults, checked_locale, locale_of, plain_text, language_text, region_text, cut_at, with_region}
use Rattle.contract_words.proofs.FaultSteps.{checked_by-ok}
use Rattle.locales.proofs.LocaleLemmas.{Symbolic, of_languages, of_regions}

-- ---- three symbols that are unpacked and packed

first_byte : (a b : ℕ) → 128 ≤ a → a < 256 → b < 256 → 128 + 4 * (a / 4 % 32) + (b / 32 + a % 4 * 8) / 8 ≡ a
first_byte a b high low fits = omega arith

second_byte : (a b : ℕ) → b < 256 → (b / 32 + a % 4 * 8) % 8 * 32 + b % 32 ≡ b
second_byte a b fits = omega arith

packed-unpacked : (base a b : ℕ) → 128 ≤ a → a < 256 → b < 256 → packed base (base + b % 32) (base + (b / 32 + a % 4 * 8)) (base + a / 4 % 32) ≡ a ∷ b ∷ []
packed-unpacked base a b high low fits =
    let first : 128 + 4 * (base + a / 4 % 32 - base) + (base + (b / 32 + a % 4 * 8) - base) / 8 ≡ a = omega (arith, first_byte a b high low fits) in
    let second : (base + (b / 32 + a % 4 * 8) - base) % 8 * 32 + (base + b % 32 - base) ≡ b = omega (arith, second_byte a b fits) in
    rw (first, second) refl

-- ---- the symbols of a part are read as the part

-- none of them is a dash
abbrev NoDash : List ℕ → Type 0
NoDash [] = Unit {0}
NoDash (b ∷ bytes) = ((b == dash) ≡ false) × NoDash bytes

record ReadAs (of : List ℕ → Option (List ℕ)) (part symbols : List ℕ) : Type 0 where
  reads : of symbols ≡ Some part
  some : (length symbols == 0) ≡ false
  no_dash : NoDash symbols

no_dash_above : (b : ℕ) → dash < b → (b == dash) ≡ false
no_dash_above b above = grind (arith, nat_tests)

chosen : (c : Bool) (part : List ℕ) → is_some (cond c (Some part) None) ≡ true → (c ≡ true) × (cond c (Some part) None ≡ Some part)
chosen true part e = (refl, refl)
chosen false part e = absurd cc

two_read : (two three : ℕ → Bool) (base : ℕ) → Symbolic two three base → (a b : ℕ) → is_some (part_of two three base (a ∷ b ∷ [])) ≡ true
    → ReadAs (part_of two three base) (a ∷ b ∷ []) (a ∷ b ∷ [])
two_read two three base sy a b e =
    let c = chosen (two a && two b) (a ∷ b ∷ []) e in
    let s = and_parts _ _ c.0 in
    record {
      reads = c.1;
      some = refl;
      no_dash = (no_dash_above a (sy.one_of_two a s.0).0, (no_dash_above b (sy.one_of_two b s.1).0, tt));
    }

three_read : (two three : ℕ → Bool) (base : ℕ) → Symbolic two three base → (x y z : ℕ) (part : List ℕ) → packed base x y z ≡ part → is_some (part_of two three base (x ∷ y ∷ z ∷ [])) ≡ true
    → ReadAs (part_of two three base) part (x ∷ y ∷ z ∷ [])
three_read two three base sy x y z part back e =
    let c = chosen (three x && three y && three z) (packed base x y z) e in
    let s = and_parts _ _ c.0 in
    let t = and_parts _ _ s.0 in
    let above = sy.base_above in
    let first = sy.one_of_three x t.0 in
    let second = sy.one_of_three y t.1 in
    let third = sy.one_of_three z s.1 in
    let wrapped : List ℕ → Option (List ℕ) = λ p. Some p in
    record {
      reads = c.1 ∙ ap wrapped back;
      some = refl;
      no_dash = (no_dash_above x (omega arith), (no_dash_above y (omega arith), (no_dash_above z (omega arith), tt)));
    }

-- ---- the two bytes of a part

pub record TwoBytes (part : List ℕ) : Type 0 where
  pub first : ℕ
  pub second : ℕ
  pub same : part ≡ first ∷ second ∷ []
  pub first_fits : first < 256
  pub second_fits : second < 256

pub record FourBytes (part : List ℕ) : Type 0 where
  pub first : ℕ
  pub second : ℕ
  pub third : ℕ
  pub fourth : ℕ
  pub same : part ≡ first ∷ second ∷ third ∷ fourth ∷ []
  pub first_fits : first < 256
  pub second_fits : second < 256
  pub third_fits : third < 256
  pub fourth_fits : fourth < 256

-- the symbols of two bytes, told apart by bit 7 of the first
abbrev unpacked_where : Bool → ℕ → ℕ → ℕ → List ℕ
unpacked_where two base a b = if two then a ∷ b ∷ [] else (base + b % 32) ∷ (base + (b / 32 + a % 4 * 8)) ∷ (base + a / 4 % 32) ∷ []

two_or_three_read : (two three : ℕ → Bool) (base : ℕ) → Symbolic two three base → (a b : ℕ) (low : Bool) → nat_lt a 128 ≡ low → a < 256 → b < 256
    → is_some (part_of two three base (unpacked_where low base a b)) ≡ true → ReadAs (part_of two three base) (a ∷ b ∷ []) (unpacked_where low base a b)
two_or_three_read two three base sy a b true is less fits e = two_read two three base sy a b e
two_or_three_read two three base sy a b false is less fits e =
    let high : 128 ≤ a = ltb-false a 128 is in
    three_read two three base sy (base + b % 32) (base + (b / 32 + a % 4 * 8)) (base + a / 4 % 32) (a ∷ b ∷ []) (packed-unpacked base a b high less fits) e

part-back : (two three : ℕ → Bool) (base : ℕ) → Symbolic two three base → (part : List ℕ) → TwoBytes part → is_some (part_of two three base (unpacked base part)) ≡ true
    → ReadAs (part_of two three base) part (unpacked base part)
part-back two three base sy part bytes e =
    let goes : List ℕ → Type 0 = λ p. is_some (part_of two three base (unpacked base p)) ≡ true → ReadAs (part_of two three base) p (unpacked base p) in
    subst goes (sym bytes.same) (two_or_three_read two three base sy bytes.first bytes.second (nat_lt bytes.first 128) refl bytes.first_fits bytes.second_fits) e

zero-back : (part : List ℕ) → TwoBytes part → is_zero part ≡ true → part ≡ no_part
zero-back part two e =
    let z = and_parts _ _ (rw two.same at e) in
    let first = eqb-true two.first 0 z.0 in
    let second = eqb-true two.second 0 (and_parts _ _ z.1).0 in
    two.same ∙ ap (λ (b : ℕ). b ∷ two.second ∷ []) first ∙ ap (λ (b : ℕ). 0 ∷ b ∷ []) second

zero_script : (script : List ℕ) → FourBytes script → is_zero script ≡ true → script ≡ no_script
zero_script script four e =
    let z = and_parts _ _ (rw four.same at e) in
    let y = and_parts _ _ z.1 in
    let x = and_parts _ _ y.1 in
    let first = eqb-true four.first 0 z.0 in
    let second = eqb-true four.second 0 y.0 in
    let third = eqb-true four.third 0 x.0 in
    let fourth = eqb-true four.fourth 0 (and_parts _ _ x.1).0 in
    four.same ∙ rw (first, second, third, fourth) refl

-- ---- where the first dash of a text stands

dash_or_length : (symbols : List ℕ) → NoDash symbols → position_or_len (λ b. b == dash) symbols ≡ length symbols
dash_or_length [] none = refl
dash_or_length (b ∷ symbols) none = let here = none.0 in let others = dash_or_length symbols none.1 in rw here (omega arith)

dash_after : (symbols after : List ℕ) → NoDash symbols → position_or_len (λ b. b == dash) (symbols ++ dash ∷ after) ≡ length symbols
dash_after [] after none = refl
dash_after (b ∷ symbols) after none = let here = none.0 in let others = dash_after symbols after none.1 in rw here (omega arith)

position-none : (symbols : List ℕ) → NoDash symbols → position (λ b. b == dash) symbols ≡ None
position-none symbols none = rw (dash_or_length symbols none, le-ltb (length symbols) (length symbols) (omega arith)) refl

position-after : (symbols after : List ℕ) → NoDash symbols → position (λ b. b == dash) (symbols ++ dash ∷ after) ≡ Some (length symbols)
position-after symbols after none =
    let within : length symbols < length (symbols ++ dash ∷ after) = omega (arith, length-append symbols (dash ∷ after)) in
    rw (dash_after symbols after none, lt-ltb (length symbols) (length (symbols ++ dash ∷ after)) within) refl

-- ---- the whole locale

language-alone : (symbols part : List ℕ) → ReadAs language_of part symbols → locale_of (symbols ++ []) ≡ Ok (without_script part no_part)
language-alone symbols part r =
    ap locale_of (append-nil symbols)
    ∙ ap (cut_at symbols) (position-none symbols r.no_dash)
    ∙ rw (r.some, r.reads) refl

language-region : (symbols after part region : List ℕ) → ReadAs language_of part symbols → ReadAs region_of region after
    → locale_of (symbols ++ dash ∷ after) ≡ Ok (without_script part region)
language-region symbols after part region r s =
    let text = symbols ++ dash ∷ after in
    let cut : cut_at text (Some (length symbols)) ≡ with_region symbols after =
    ap (λ (t : List ℕ). with_region t (drop (length symbols + 1) text)) (take-append_seam symbols (dash ∷ after))
    ∙ ap (with_region symbols) (drop-append-add symbols (dash ∷ after) 1) in
    ap (cut_at text) (position-after symbols after r.no_dash) ∙ cut ∙ rw (s.reads, r.some, r.reads) refl

abbrev made : List ℕ → List ℕ → Result Locale LocaleFault
made p q = Ok (without_script p q)

in_script : (l : Locale) → l.script ≡ no_script → made l.language l.region ≡ Ok l
in_script l plain = let with_script : List ℕ → Result Locale LocaleFault = λ s. Ok (record { language = l.language; region = l.region; script = s }) in ap with_script (sym plain)

not_false : true ≡ false → ⊥
not_false e = cc

whole : (l : Locale) (z y : Bool) → is_zero l.language ≡ z → is_zero l.region ≡ y → TwoBytes l.language → TwoBytes l.region → l.script ≡ no_script
    → (z || is_some (language_of (unpacked first_letter l.language))) ≡ true → (y || is_some (region_of (unpacked first_digit l.region))) ≡ true → (z && not y) ≡ false
    → locale_of ((if z then [] else unpacked first_letter l.language) ++ (if y then [] else dash ∷ unpacked first_digit l.region)) ≡ Ok l
whole l true true no_language no_region a b plain c d e =
    ap (λ (p : List ℕ). made p no_part) (sym (zero-back l.language a no_language)) ∙ ap (made l.language) (sym (zero-back l.region b no_region)) ∙ in_script l plain
whole l true false no_language some_region a b plain c d e = absurd (not_false e)
whole l false true some_language no_region a b plain c d e =
    language-alone (unpacked first_letter l.language) l.language (part-back _ _ _ of_languages l.language a c) ∙ ap (made l.language) (sym (zero-back l.region b no_region)) ∙ in_script l plain
whole l false false some_language some_region a b plain c d e =
    language-region (unpacked first_letter l.language) (unpacked first_digit l.region) l.language l.region (part-back _ _ _ of_languages l.language a c) (part-back _ _ _ of_regions l.region b d)
    ∙ in_script l plain

pub given : (l : Locale) → TwoBytes l.language → TwoBytes l.region → FourBytes l.script → checked_locale l ≡ Ok l → locale_of (plain_text l) ≡ Ok l
unfolding checked_locale plain_text
given l a b s e =
    let met = (checked_by-ok (locale_faults l) (Ok l) l e).0 in
    let spelled : is_spelled l ≡ true = not-false (is_spelled l) met.1.0 in
    let parts = and_parts _ _ spelled in
    let printed : plain_text l ≡ language_text l.language ++ region_text l.region = rw spelled refl in
    ap locale_of printed ∙ whole l (is_zero l.language) (is_zero l.region) refl refl a b (zero_script l.script s (not-false (is_zero l.script) met.0)) parts.0 parts.1 met.1.1.0

-- ---- its number gives the bytes back

AreBytes : List ℕ → Type 0
AreBytes bytes = (i : ℕ) → get_or bytes i 0 < 256

no_bytes : AreBytes []
unfolding AreBytes
no_bytes i = omega arith

one_more : (b : ℕ) (bytes : List ℕ) → b < 256 → AreBytes bytes → AreBytes (b ∷ bytes)
unfolding AreBytes
one_more b bytes fits others zero = fits
one_more b bytes fits others (suc i) = others i

each_fits : (bytes : List ℕ) → AreBytes bytes → (i : ℕ) → get_or bytes i 0 < 256
unfolding AreBytes
each_fits bytes fit = fit

pub numbered : (l : Locale) → TwoBytes l.language → TwoBytes l.region → FourBytes l.script → locale_of_number (locale_number l) ≡ l
unfolding locale_number locale_of_number
numbered l a b s =
    let bytes : List ℕ = a.first ∷ a.second ∷ b.first ∷ b.second ∷ s.first ∷ s.second ∷ s.third ∷ s.fourth ∷ [] in
    let made : List ℕ → List ℕ → List ℕ → Locale = λ p q r. record { language = p; region = q; script = r } in
    let joined : l.language ++ l.region ++ l.script ≡ bytes = rw (a.same, b.same, s.same) refl in
    let fit : AreBytes bytes = one_more _ _ a.first_fits (one_more _ _ a.second_fits (one_more _ _ b.first_fits (one_more _ _ b.second_fits
    (one_more _ _ s.first_fits (one_more _ _ s.second_fits (one_more _ _ s.third_fits (one_more _ _ s.fourth_fits no_bytes))))))) in
    let back : to_be_bytes w64 (from_be_bytes w64 bytes) ≡ bytes = be_bytes_8 bytes (from_be_bytes w64 bytes) refl (each_fits bytes fit) refl in
    ap (λ (t : List ℕ). locale_of_number (from_be_bytes w64 t)) joined
    ∙ ap (λ (t : List ℕ). made (take 2 t) (take 2 (drop 2 t)) (drop 4 t)) back
    ∙ ap (λ (p : List ℕ). made p (b.first ∷ b.second ∷ []) (s.first ∷ s.second ∷ s.third ∷ s.fourth ∷ [])) (sym a.same)
    ∙ ap (λ (p : List ℕ). made l.language p (s.first ∷ s.second ∷ s.third ∷ s.fourth ∷ [])) (sym b.same)
    ∙ ap (made l.language l.region) (sym s.same)

-- its bytes, one after the other, have its number
pub number_of_bytes : (l : Locale) → TwoBytes l.language → TwoBytes l.region → FourBytes l.script
    → from_be_bytes w64 (get_or l.language 0 0 ∷ get_or l.language 1 0 ∷ get_or l.region 0 0 ∷ get_or l.region 1 0 ∷ get_or l.script 0 0 ∷ get_or l.script 1 0 ∷ get_or l.script 2 0 ∷ get_or l.script 3 0 ∷ []) ≡ locale_number l
unfolding locale_number
number_of_bytes l a b s = rw (a.same, b.same, s.same) refl

pub two_bytes : (part : List ℕ) → length part ≡ 2 → ((i : ℕ) → get_or part i 0 < 256) → TwoBytes part
two_bytes [] e fits = absurd (omega arith)
two_bytes (a ∷ []) e fits = absurd (omega arith)
two_bytes (a ∷ b ∷ []) e fits = record { first = a; second = b; same = refl; first_fits = fits 0; second_fits = fits 1 }
two_bytes (a ∷ b ∷ c ∷ part) e fits = absurd (omega arith)

pub four_bytes : (part : List ℕ) → length part ≡ 4 → ((i : ℕ) → get_or part i 0 < 256) → FourBytes part
four_bytes [] e fits = absurd (omega arith)
four_bytes (a ∷ []) e fits = absurd (omega arith)
four_bytes (a ∷ b ∷ []) e fits = absurd (omega arith)
four_bytes (a ∷ b ∷ c ∷ []) e fits = absurd (omega arith)
four_bytes (a ∷ b ∷ c ∷ d ∷ []) e fits =
    record { first = a; second = b; third = c; fourth = d; same = refl; first_fits = fits 0; second_fits = fits 1; third_fits = fits 2; fourth_fits = fits 3 }
four_bytes (a ∷ b ∷ c ∷ d ∷ f ∷ part) e fits = absurd (omega arith)

-- ---- a locale that a text gives has no region without a language

pub no_region : (l : Locale) → checked_locale l ≡ Ok l → is_zero l.language ≡ true → is_zero l.region ≡ true
unfolding checked_locale
no_region l e none =
    let met = (checked_by-ok (locale_faults l) (Ok l) l e).0 in
    let alone : (is_zero l.language && not (is_zero l.region)) ≡ false = met.1.1.0 in
    not-false (is_zero l.region) (rw none at alone)
