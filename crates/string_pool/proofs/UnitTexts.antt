-- How the text of units of UTF-16 goes on.
use Rattle.std.proofs.Common.{◌≡◌, ℕ, ◌&&◌, ◌||◌, false, List, [], ◌∷◌, ◌++◌, Option, Some, None, refl, sym, ap, ◌∙◌, inl, inr, append_assoc}
use Rattle.std.proofs.lemmas.Bool.{cases_Bool}
use Rattle.std.proofs.lemmas.List.{append-nil}
use Rattle.std.specs.Char.{encode_utf8}
use Rattle.std.specs.Char.Utf16.{is_high_surrogate, is_low_surrogate}
use Rattle.std.specs.Option.{option_map_or}
use Rattle.string_pool.specs.Escapes.{pair_of}
use Rattle.string_pool.specs.Shown.{takes_backslash, is_control, character_text, unit_text, units_text}
use Rattle.string_pool.proofs.ByteTexts.{plain_character}

pub units_text-nil : (units : List ℕ) → units ≡ [] → units_text units ≡ []
unfolding units_text
units_text-nil units nothing = rw nothing refl

-- a unit at the end
pub units_text-last : (units behind : List ℕ) (unit : ℕ) → units ≡ unit ∷ behind → behind ≡ [] → units_text units ≡ unit_text unit ++ units_text behind
unfolding units_text
units_text-last units behind unit split nothing = rw (split, nothing) (sym (append-nil (unit_text unit)))

-- two units, a pair or not
two_units : (others : List ℕ) (high low : ℕ) → units_text (high ∷ low ∷ others)
    ≡ option_map_or (λ c. character_text c ++ units_text others) (pair_of high low) (unit_text high ++ units_text (low ∷ others))
unfolding units_text pair_of
two_units others high low =
    elim (cases_Bool (is_high_surrogate high && is_low_surrogate low)) [
      | inl pair ↦ rw pair refl
      | inr apart ↦ rw apart refl
    ]

pub units_text-pair : (units behind others : List ℕ) (high low c : ℕ) → units ≡ high ∷ behind → behind ≡ low ∷ others → Some c ≡ pair_of high low
    → units_text units ≡ character_text c ++ units_text others
units_text-pair units behind others high low c split next pair =
    ap (λ (t : List ℕ). units_text t) (split ∙ ap (λ (t : List ℕ). high ∷ t) next) ∙ two_units others high low
    ∙ ap (λ (o : Option ℕ). option_map_or (λ c. character_text c ++ units_text others) o (unit_text high ++ units_text (low ∷ others))) (sym pair)

-- two units that are no pair
pub units_text-apart : (units behind others : List ℕ) (high low : ℕ) → units ≡ high ∷ behind → behind ≡ low ∷ others → None ≡ pair_of high low
    → units_text units ≡ unit_text high ++ units_text behind
units_text-apart units behind others high low split next apart =
    ap (λ (t : List ℕ). units_text t) (split ∙ ap (λ (t : List ℕ). high ∷ t) next) ∙ two_units others high low
    ∙ ap (λ (o : Option ℕ). option_map_or (λ c. character_text c ++ units_text others) o (unit_text high ++ units_text (low ∷ others))) (sym apart)
    ∙ ap (λ (t : List ℕ). unit_text high ++ units_text t) (sym next)

pub ruleset character_steps = (units_text-nil, units_text-last)

-- ---- a run of characters that stand for themselves

pub run-none : (text : List ℕ) → text ≡ [] ++ text
run-none text = refl

pub run-more : (text run more left behind : List ℕ) (c : ℕ) → text ≡ run ++ left → left ≡ character_text c ++ behind → (takes_backslash c || is_control c) ≡ false
    → more ≡ run ++ encode_utf8 c → text ≡ more ++ behind
run-more text run more left behind c before first plain longer =
    before ∙ ap (λ (t : List ℕ). run ++ t) (first ∙ ap (λ (t : List ℕ). t ++ behind) (plain_character c plain)) ∙ sym (append_assoc run (encode_utf8 c) behind)
    ∙ ap (λ (t : List ℕ). t ++ behind) (sym longer)

pub ruleset run_steps = (run-none, run-more)
