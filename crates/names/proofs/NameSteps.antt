-- Names as text.
use Rattle.std.proofs.Common.{◌≡◌, ℕ, Bool, true, false, List, [], ◌∷◌, ◌++◌, Option, Some, None, refl, sym, ap, subst, ◌∙◌, append_assoc}
use Rattle.std.specs.Str.{IsUtf8, is_utf8}
use Rattle.std.proofs.lemmas.List.{append-nil}
use Rattle.std.proofs.lemmas.Str.{IsUtf8-from_is_utf8, is_utf8-from_IsUtf8}
use Rattle.string_pool.specs.Units.{units_in}
use Rattle.names.specs.NameText.{text_of_bytes}
use Rattle.names.specs.Surrogates.{with_pairs}

pub is_text : (bytes text : List ℕ) → IsUtf8 bytes → text ≡ bytes → Some text ≡ text_of_bytes bytes
unfolding text_of_bytes
is_text bytes text spelled same =
    let found : List ℕ → Option (List ℕ) = λ t. Some t in
    rw (is_utf8-from_IsUtf8 bytes spelled) (ap found same)

false_not_true : false ≡ true → ⊥
false_not_true same = cc

not-utf8 : (bytes : List ℕ) → ¬ (IsUtf8 bytes) → is_utf8 bytes ≡ false
not-utf8 bytes other = by (is_utf8 bytes) refl
  where
    by : (b : Bool) → is_utf8 bytes ≡ b → is_utf8 bytes ≡ false
    by true e = absurd (other (IsUtf8-from_is_utf8 bytes e))
    by false e = e

-- bytes that are no text, and are one with pairs, or are none so either
pub is_paired_text : (bytes paired text : List ℕ) → ¬ (IsUtf8 bytes) → paired ≡ with_pairs bytes → IsUtf8 text → text ≡ paired → Some text ≡ text_of_bytes bytes
unfolding text_of_bytes
is_paired_text bytes paired text other pairs spelled same =
    let found : List ℕ → Option (List ℕ) = λ t. Some t in
    rw (not-utf8 bytes other, is_utf8-from_IsUtf8 (with_pairs bytes) (subst (λ (t : List ℕ). IsUtf8 t) (same ∙ pairs) spelled)) (ap found (same ∙ pairs))

pub is_no_text : (bytes paired : List ℕ) → ¬ (IsUtf8 bytes) → paired ≡ with_pairs bytes → (IsUtf8 paired → false ≡ true) → None ≡ text_of_bytes bytes
unfolding text_of_bytes
is_no_text bytes paired other pairs neither =
    rw (not-utf8 bytes other, not-utf8 (with_pairs bytes) (λ spelled. false_not_true (neither (subst (λ (t : List ℕ). IsUtf8 t) (sym pairs) spelled)))) refl

-- ---- a loop over units

pub units-next : (bytes left behind units : List ℕ) (unit : ℕ) → units ++ units_in left ≡ units_in bytes → units_in left ≡ unit ∷ units_in behind
    → (units ++ unit ∷ []) ++ units_in behind ≡ units_in bytes
units-next bytes left behind units unit before first =
    append_assoc units (unit ∷ []) (units_in behind) ∙ ap (λ (t : List ℕ). units ++ t) (sym first) ∙ before

pub units-end : (bytes left units : List ℕ) → units ++ units_in left ≡ units_in bytes → units_in left ≡ [] → units ≡ units_in bytes
units-end bytes left units before nothing = sym (append-nil units) ∙ ap (λ (t : List ℕ). units ++ t) (sym nothing) ∙ before
