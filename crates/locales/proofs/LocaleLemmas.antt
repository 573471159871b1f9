-- What a text of a locale stands for is printed as that text, and passes the check of bytes.
use Rattle.std.proofs.Common.{◌≡◌, ◌≢◌, ℕ, ◌+◌, ◌-◌, ◌*◌, ◌/◌, ◌%◌, ◌<◌, ◌≤◌, Bool, true, false, ◌&&◌, nat_le, cond, List, [], ◌∷◌, ◌++◌, length, get_or, take, drop, position, ◌==◌, Option, Some, None, Result, Ok, Err, IfOk, is_some, unwrap_or, not, refl, sym, ap, subst, ◌∙◌, arith}
use Rattle.std.proofs.lemmas.List.{append-nil, drop_more, take-append-drop}
use Rattle.std.proofs.lemmas.List.Quantifiers.{position-Some}
use Rattle.std.proofs.lemmas.Bool.{eqb-true, leb-true, le-ltb, lt-ltb, and_parts}
use Rattle.std.proofs.lemmas.Bool.Decides.{nat_tests}
use Rattle.std.proofs.Math.Dec.{eqb-suc-zero}
use Rattle.contract_words.specs.Faults.{checked_by}
use Rattle.locales.specs.declared.locale.Locale.{Locale}
use Rattle.locales.specs.declared.locale.LocaleFault.{LocaleFault}
use Rattle.locales.specs.declared.locale.LocaleFault.TheVariants.{RegionAlone, Malformed}
use Rattle.locales.specs.Zero.{is_zero}
use Rattle.locales.specs.Locale.{first_letter, first_digit, dash, is_small_letter, is_capital_letter, is_digit, packed, part_of, language_of, region_of, no_part, no_script, without_script, unpacked, without_region, with_region, cut_at, locale_of, checked_locale, plain_text}

some_if : {X : Type 0} (b : Bool) (x y : X) → cond b (Some x) None ≡ Some y → (b ≡ true) × (x ≡ y)
some_if true x y e = (refl, cc)
some_if false x y e = absurd cc

within : (low high b : ℕ) → (nat_le low b && nat_le b high) ≡ true → (low ≤ b) × (b ≤ high)
within low high b h = let r = and_parts _ _ h in (leb-true low b r.0, leb-true b high r.1)

-- what the symbols of languages and those of regions have in common: two of them stand for themselves, three are
-- counted from a base in five bits each, and none is a dash
pub record Symbolic (two three : ℕ → Bool) (base : ℕ) : Type 0 where
  pub one_of_two : (b : ℕ) → two b ≡ true → (dash < b) × (b < 128)
  pub one_of_three : (b : ℕ) → three b ≡ true → (base ≤ b) × (b < base + 32)
  pub base_above : dash < base

pub of_languages : Symbolic is_small_letter is_small_letter first_letter
of_languages = record {
  one_of_two = λ b h. let r = within first_letter 122 b h in (omega arith, omega arith);
  one_of_three = λ b h. let r = within first_letter 122 b h in (omega arith, omega arith);
  base_above = omega arith;
}

pub of_regions : Symbolic is_capital_letter is_digit first_digit
of_regions = record {
  one_of_two = λ b h. let r = within 65 90 b h in (omega arith, omega arith);
  one_of_three = λ b h. let r = within first_digit 57 b h in (omega arith, omega arith);
  base_above = omega arith;
}

-- three symbols that are packed and unpacked
first_back : (y x : ℕ) → x < 32 → (y % 8 * 32 + x) % 32 ≡ x
first_back y x h = omega arith

second_back : (x y z : ℕ) → x < 32 → y < 32 → (y % 8 * 32 + x) / 32 + (128 + 4 * z + y / 8) % 4 * 8 ≡ y
second_back x y z h k = omega arith

third_back : (y z : ℕ) → y < 32 → z < 32 → (128 + 4 * z + y / 8) / 4 % 32 ≡ z
third_back y z h k = omega arith

unpacked-packed : (base a b c : ℕ) → base ≤ a → a < base + 32 → base ≤ b → b < base + 32 → base ≤ c → c < base + 32 → unpacked base (packed base a b c) ≡ a ∷ b ∷ c ∷ []
unpacked-packed base a b c al ah bl bh cl ch =
    let high : 128 ≤ 128 + 4 * (c - base) + (b - base) / 8 = omega arith in
    let first : base + ((b - base) % 8 * 32 + (a - base)) % 32 ≡ a = omega (arith, first_back (b - base) (a - base) (omega arith)) in
    let second : base + (((b - base) % 8 * 32 + (a - base)) / 32 + (128 + 4 * (c - base) + (b - base) / 8) % 4 * 8) ≡ b =
    omega (arith, second_back (a - base) (b - base) (c - base) (omega arith) (omega arith)) in
    let third : base + (128 + 4 * (c - base) + (b - base) / 8) / 4 % 32 ≡ c = omega (arith, third_back (b - base) (c - base) (omega arith) (omega arith)) in
    rw (le-ltb (128 + 4 * (c - base) + (b - base) / 8) 128 high) (cc)

is_zero-positive : (b : ℕ) (bytes : List ℕ) → 0 < b → is_zero (b ∷ bytes) ≡ false
is_zero-positive b bytes h = grind (arith, nat_tests)

-- a part of a locale that stands for a text
pub record StandsFor (base : ℕ) (part text : List ℕ) : Type 0 where
  pub not_zero : is_zero part ≡ false
  pub symbols : unpacked base part ≡ text

two_stand : (base a b : ℕ) (part : List ℕ) → 0 < a → a < 128 → a ∷ b ∷ [] ≡ part → StandsFor base part (a ∷ b ∷ [])
two_stand base a b part low high same =
    subst (λ (p : List ℕ). StandsFor base p (a ∷ b ∷ [])) same
    (record { not_zero = is_zero-positive a (b ∷ []) low; symbols = rw (lt-ltb a 128 high) refl })

three_stand : (base a b c : ℕ) (part : List ℕ) → base ≤ a → a < base + 32 → base ≤ b → b < base + 32 → base ≤ c → c < base + 32 → packed base a b c ≡ part → StandsFor base part (a ∷ b ∷ c ∷ [])
three_stand base a b c part al ah bl bh cl ch same =
    subst (λ (p : List ℕ). StandsFor base p (a ∷ b ∷ c ∷ [])) same
    (record { not_zero = is_zero-positive (128 + 4 * (c - base) + (b - base) / 8) (((b - base) % 8 * 32 + (a - base)) ∷ []) (omega arith); symbols = unpacked-packed base a b c al ah bl bh cl ch })

pub part_of-stands : (two three : ℕ → Bool) (base : ℕ) → Symbolic two three base → (text part : List ℕ) → part_of two three base text ≡ Some part → StandsFor base part text
part_of-stands two three base sy [] part e = absurd cc
part_of-stands two three base sy (a ∷ []) part e = absurd cc
part_of-stands two three base sy (a ∷ b ∷ []) part e =
    let r = some_if _ (a ∷ b ∷ []) part e in
    let s = and_parts _ _ r.0 in
    let first = sy.one_of_two a s.0 in
    two_stand base a b part (omega arith) (omega arith) r.1
part_of-stands two three base sy (a ∷ b ∷ c ∷ []) part e =
    let r = some_if _ (packed base a b c) part e in
    let s = and_parts _ _ r.0 in
    let t = and_parts _ _ s.0 in
    let first = sy.one_of_three a t.0 in
    let second = sy.one_of_three b t.1 in
    let third = sy.one_of_three c s.1 in
    three_stand base a b c part first.0 first.1 second.0 second.1 third.0 third.1 r.1
part_of-stands two three base sy (a ∷ b ∷ c ∷ d ∷ text) part e = absurd cc

-- ---- a whole locale

-- a text gives a locale: it is the one that is printed, and the bytes pass the check
pub record Gives (text : List ℕ) (l : Locale) : Type 0 where
  pub printed : plain_text l ≡ text
  pub passes : checked_locale l ≡ Ok l

gives-both : (l : Locale) (before after : List ℕ) → language_of before ≡ Some l.language → region_of after ≡ Some l.region → l.script ≡ no_script → Gives (before ++ dash ∷ after) l
unfolding plain_text checked_locale
gives-both l before after e f plain =
    let language = part_of-stands _ _ _ of_languages before l.language e in
    let region = part_of-stands _ _ _ of_regions after l.region f in
    record {
      printed = rw (language.not_zero, language.symbols, region.not_zero, region.symbols, e, f) refl;
      passes = rw (plain, language.not_zero, language.symbols, region.not_zero, region.symbols, e, f) refl;
    }

gives-language : (l : Locale) (text : List ℕ) → language_of text ≡ Some l.language → l.region ≡ no_part → l.script ≡ no_script → Gives text l
unfolding plain_text checked_locale
gives-language l text e none plain =
    let language = part_of-stands _ _ _ of_languages text l.language e in
    record {
      printed = rw (language.not_zero, language.symbols, none, e) (append-nil text);
      passes = rw (plain, language.not_zero, language.symbols, none, e) refl;
    }

dash_between : (text : List ℕ) (place : ℕ) → position (λ b. b == dash) text ≡ Some place → take place text ++ dash ∷ drop (place + 1) text ≡ text
dash_between text place e =
    let at = position-Some (λ b. b == dash) text place 0 e in
    let byte : get_or text place 0 ≡ dash = eqb-true (get_or text place 0) dash at.1 in
    let rest : drop place text ≡ dash ∷ drop (place + 1) text = drop_more text place 0 at.0 ∙ ap (λ (b : ℕ). b ∷ drop (place + 1) text) byte in
    ap (λ (t : List ℕ). take place text ++ t) (sym rest) ∙ take-append-drop place text

same_locale : (language region : List ℕ) (l : Locale) → ◌≡◌ {A = Result Locale LocaleFault} (Ok (without_script language region)) (Ok l) → (language ≡ l.language) × (region ≡ l.region) × (no_script ≡ l.script)
same_locale language region l e =
    let made : Locale = without_script language region in
    let same : made ≡ l = cc in
    (ap (λ (m : Locale). m.language) same, ap (λ (m : Locale). m.region) same, ap (λ (m : Locale). m.script) same)

without_region-gives : (text : List ℕ) (l : Locale) → without_region text ≡ Ok l → Gives text l
unfolding plain_text checked_locale
without_region-gives [] l e =
    let same = same_locale no_part no_part l e in
    record { printed = rw (← same.0, ← same.1) refl; passes = rw (← same.0, ← same.1, ← same.2) refl }
without_region-gives (b ∷ bytes) l e = alone (language_of (b ∷ bytes)) refl (rw (eqb-suc-zero (length bytes)) at e)
  where
    alone : (o : Option (List ℕ)) → language_of (b ∷ bytes) ≡ o → checked_by ((not (is_some o), Malformed) ∷ []) (Ok (without_script (unwrap_or o no_part) no_part)) ≡ Ok l
        → Gives (b ∷ bytes) l
    alone None read f = absurd cc
    alone (Some part) read f = let same = same_locale part no_part l f in gives-language l (b ∷ bytes) (rw (← same.0) read) (sym same.1) (sym same.2)

with_region-gives : (before after : List ℕ) (l : Locale) → with_region before after ≡ Ok l → Gives (before ++ dash ∷ after) l
with_region-gives before after l e = parts (region_of after) (length before == 0) (language_of before) refl refl e
  where
    parts : (r : Option (List ℕ)) (none : Bool) (o : Option (List ℕ)) → region_of after ≡ r → language_of before ≡ o
        → checked_by ((not (is_some r), Malformed) ∷ (none, RegionAlone) ∷ (not (is_some o), Malformed) ∷ []) (Ok (without_script (unwrap_or o no_part) (unwrap_or r no_part))) ≡ Ok l
        → Gives (before ++ dash ∷ after) l
    parts None none o read_region read_language f = absurd cc
    parts (Some region) true o read_region read_language f = absurd cc
    parts (Some region) false None read_region read_language f = absurd cc
    parts (Some region) false (Some part) read_region read_language f =
        let same = same_locale part region l f in
        gives-both l before after (rw (← same.0) read_language) (rw (← same.1) read_region) (sym same.2)

pub locale_of-gives : (text : List ℕ) (l : Locale) → locale_of text ≡ Ok l → Gives text l
locale_of-gives text l e = at (position (λ b. b == dash) text) refl e
  where
    at : (o : Option ℕ) → position (λ b. b == dash) text ≡ o → cut_at text o ≡ Ok l → Gives text l
    at None p e = without_region-gives text l e
    at (Some place) p e = subst (λ (t : List ℕ). Gives t l) (dash_between text place p) (with_region-gives (take place text) (drop (place + 1) text) l e)

pub printed_back : (text : List ℕ) (r : Result Locale LocaleFault) → r ≡ locale_of text → IfOk r (λ l. plain_text l ≡ text)
printed_back text (Ok l) e = (locale_of-gives text l (sym e)).printed
printed_back text (Err fault) e = tt

-- bytes that do not pass the check are given by no text
pub not_given : (l : Locale) (fault : LocaleFault) → Err fault ≡ checked_locale l → (text : List ℕ) → locale_of text ≢ Ok l
not_given l fault e text given = let passes = (locale_of-gives text l given).passes in cc
