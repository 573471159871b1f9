-- The number of a record with a script or a variant says that it has one.
use Rattle.std.proofs.Common.{◌≡◌, ◌≢◌, ℕ, ◌+◌, ◌*◌, ◌%◌, ◌^◌, ◌<◌, ◌==◌, ◌&&◌, ◌||◌, not, nat_lt, Bool, true, false, if◌then◌else◌, List, [], ◌∷◌, length, get_or, refl, sym, subst, ◌∙◌, arith}
use Rattle.std.specs.Int.{w64, from_be_bytes}
use Rattle.std.proofs.lemmas.Bool.{ne_eqb, and_parts, ltb-true}
use Rattle.config_record.specs.declared.coord.Coord.TheVariants as coords
use Rattle.locales.specs.Zero.{is_zero}
use Rattle.locales.specs.Locale.{no_script}
use Rattle.locales.specs.LocaleNumber.{locale_number}
use Rattle.locales.specs.KeptScript.{other_script, looked_for, with_variant, kept_script}
use Rattle.config_record.specs.ComparedNumber.{record_number, has_script_or_variant}
use Rattle.config_record.specs.Record.{byte, locale_in, locale_script, locale_variant, script_was_computed, is_set_aside}

-- the lower half of the number of eight bytes
lower_half : (a b c d e f g h : ℕ) → e < 256 → f < 256 → g < 256 → h < 256
    → from_be_bytes w64 (a ∷ b ∷ c ∷ d ∷ e ∷ f ∷ g ∷ h ∷ []) % 2 ^ 32 ≡ 16777216 * e + 65536 * f + 256 * g + h
lower_half a b c d e f g h one two three four = omega arith

-- it is more than that there is none, or that Android has looked for one
record SaysMore (e f g h : ℕ) : Type 0 where
  first : e < 256
  second : f < 256
  third : g < 256
  fourth : h < 256
  some : 16777216 * e + 65536 * f + 256 * g + h ≢ 0
  other : 16777216 * e + 65536 * f + 256 * g + h ≢ 2

more : (a b c d e f g h : ℕ) → SaysMore e f g h → has_script_or_variant (from_be_bytes w64 (a ∷ b ∷ c ∷ d ∷ e ∷ f ∷ g ∷ h ∷ [])) ≡ true
more a b c d e f g h is =
    let half = lower_half a b c d e f g h is.first is.second is.third is.fourth in
    rw (half, ne_eqb _ 0 is.some, ne_eqb _ 2 is.other) refl

-- the bytes of a script
record IsScript (e f g h : ℕ) : Type 0 where
  first : e < 256
  second : f < 256
  third : g < 256
  fourth : h < 256

-- no more than that
less : (a b c d h : ℕ) → h < 256 → (h == 0 || h == 2) ≡ true → has_script_or_variant (from_be_bytes w64 (a ∷ b ∷ c ∷ d ∷ 0 ∷ 0 ∷ 0 ∷ h ∷ [])) ≡ false
less a b c d h fits is = let half : from_be_bytes w64 (a ∷ b ∷ c ∷ d ∷ 0 ∷ 0 ∷ 0 ∷ h ∷ []) % 2 ^ 32 ≡ h = omega arith in rw (half, is) refl

-- whether there is a variant, whether one was looked for, whether the script is zeros, and whether a device may have it
by_cases : (a b c d e f g h : ℕ) → IsScript e f g h → (variant computed none can : Bool) → (can ≡ true → (0 < e) × (e < 128))
    → has_script_or_variant (from_be_bytes w64 (a ∷ b ∷ c ∷ d ∷ with_variant variant (if none then (if computed then looked_for else no_script) else if can then e ∷ f ∷ g ∷ h ∷ [] else other_script)))
    ≡ (not none || variant)
by_cases a b c d e f g h is true true true can within = more a b c d 128 0 0 2 (record { first = omega arith; second = omega arith; third = omega arith; fourth = omega arith; some = λ same. omega (arith, same); other = λ same. omega (arith, same) })
by_cases a b c d e f g h is true false true can within = more a b c d 128 0 0 0 (record { first = omega arith; second = omega arith; third = omega arith; fourth = omega arith; some = λ same. omega (arith, same); other = λ same. omega (arith, same) })
by_cases a b c d e f g h is true computed false true within =
    let of_device = within refl in
    more a b c d (e + 128) f g h
    (record { first = omega arith; second = is.second; third = is.third; fourth = is.fourth; some = λ same. omega (arith, same); other = λ same. omega (arith, same) })
by_cases a b c d e f g h is true computed false false within = more a b c d 128 0 0 1 (record { first = omega arith; second = omega arith; third = omega arith; fourth = omega arith; some = λ same. omega (arith, same); other = λ same. omega (arith, same) })
by_cases a b c d e f g h is false true true can within = less a b c d 2 (omega arith) refl
by_cases a b c d e f g h is false false true can within = less a b c d 0 (omega arith) refl
by_cases a b c d e f g h is false computed false true within =
    let of_device = within refl in
    more a b c d e f g h
    (record { first = is.first; second = is.second; third = is.third; fourth = is.fourth; some = λ same. omega (arith, same); other = λ same. omega (arith, same) })
by_cases a b c d e f g h is false computed false false within = more a b c d 0 0 0 1 (record { first = omega arith; second = omega arith; third = omega arith; fourth = omega arith; some = λ same. omega (arith, same); other = λ same. omega (arith, same) })

numbered : (r : List ℕ) → IsScript (byte r 36) (byte r 37) (byte r 38) (byte r 39) → has_script_or_variant (record_number r coords.Locale) ≡ is_set_aside r
unfolding record_number locale_number kept_script locale_in is_set_aside
numbered r is =
    by_cases (byte r 8) (byte r 9) (byte r 10) (byte r 11) (byte r 36) (byte r 37) (byte r 38) (byte r 39)
    is
    (not (is_zero (locale_variant r))) (script_was_computed r) (is_zero (locale_script r)) (nat_lt 0 (byte r 36) && nat_lt (byte r 36) 128)
    (λ can. let parts = and_parts (nat_lt 0 (byte r 36)) (nat_lt (byte r 36) 128) can in (ltb-true 0 (byte r 36) parts.0, ltb-true (byte r 36) 128 parts.1))

pub compared : (r script : List ℕ) (aside : Bool) → script ≡ locale_script r → length script ≡ 4 → ((i : ℕ) → get_or script i 0 < 256) → aside ≡ is_set_aside r → aside ≡ has_script_or_variant (record_number r coords.Locale)
compared r script aside same four fit value =
    let own : (i : ℕ) → get_or (locale_script r) i 0 < 256 = λ i. subst (λ (bytes : List ℕ). get_or bytes i 0 < 256) same (fit i) in
    value ∙ sym (numbered r (record { first = own 0; second = own 1; third = own 2; fourth = own 3 }))
