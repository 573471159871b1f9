-- How units of UTF-16 go on.
use Rattle.std.proofs.Common.{◌≡◌, ◌≢◌, ℕ, ◌<◌, ◌≤◌, false, List, [], ◌∷◌, ◌++◌, length, drop, Some, refl, sym, ap, ◌∙◌, arith, inl, inr, subst, nat_lt}
use Rattle.std.proofs.lemmas.Bool.{le-ltb, eq-eqb, ne_eqb}
use Rattle.std.proofs.lemmas.List.{nil_from_length}
use Rattle.std.proofs.lemmas.Str.{chars-nil, chars_past_char, IsUtf8-past_char}
use Rattle.std.specs.Char.{encode_utf8}
use Rattle.std.specs.Char.Escape.{encode_utf16}
use Rattle.std.specs.List.{flat_map}
use Rattle.std.specs.Str.{IsUtf8, bytes_eq}
use Rattle.std.specs.Str.Iter.{encode_utf16_rest, encode_utf16_pending, encode_utf16_steps}
use Rattle.std.specs.declared.str.EncodeUtf16.{EncodeUtf16}
use Rattle.chunk_walk.specs.Number.{number}
use Rattle.string_pool.specs.Units.{units_in, units_of}

pub units_in-end : (left : List ℕ) → length left < 2 → units_in left ≡ []
unfolding units_in
units_in-end [] short = refl
units_in-end (_ ∷ []) short = refl
units_in-end (_ ∷ _ ∷ left) short = absurd (omega arith)

pub units_in-next : (left behind : List ℕ) (unit : ℕ) → 2 ≤ length left → unit ≡ number 2 left 0 → behind ≡ drop 2 left → units_in left ≡ unit ∷ units_in behind
unfolding units_in
units_in-next [] behind unit long first others = absurd (omega arith)
units_in-next (_ ∷ []) behind unit long first others = absurd (omega arith)
units_in-next (_ ∷ _ ∷ left) behind unit long first others = rw (first, others) refl

pub ruleset unit_steps = (units_in-end, units_in-next)

-- ---- a loop that compares units with those of a text

-- the units that are still to come of a text
abbrev units_to_come : EncodeUtf16 → List ℕ
units_to_come s = encode_utf16_pending s ++ units_of (encode_utf16_rest s)

units_of-next : (text others : List ℕ) (c : ℕ) → IsUtf8 text → text ≡ encode_utf8 c ++ others → units_of text ≡ encode_utf16 c ++ units_of others
unfolding units_of
units_of-next text others c spelled first = ap (λ (cs : List ℕ). flat_map encode_utf16 cs) (chars_past_char text others c spelled first)

units_to_come-next : (s t : EncodeUtf16) (unit : ℕ) → IsUtf8 (encode_utf16_rest s) → encode_utf16_steps s (Some unit) t
    → IsUtf8 (encode_utf16_rest t) × (units_to_come s ≡ unit ∷ units_to_come t)
units_to_come-next s t unit spelled steps =
    elim steps [
      | inl second ↦ (subst (λ (text : List ℕ). IsUtf8 text) (sym second.2) spelled, rw (second.0, second.1, second.2) refl)
      | inr first ↦
          let c = first.1.0 in
          let others = encode_utf16_rest t in (
            IsUtf8-past_char (encode_utf16_rest s) others c spelled first.1.1,
            ap (λ (units : List ℕ). units ++ units_of (encode_utf16_rest s)) first.0
                ∙ units_of-next (encode_utf16_rest s) others c spelled first.1.1
                ∙ ap (λ (units : List ℕ). units ++ units_of others) first.1.2,
          )
    ]

-- the units that were compared are the same in both
pub record Compares (bytes text left : List ℕ) (units : EncodeUtf16) : Type 0 where
  pub spelled : IsUtf8 (encode_utf16_rest units)
  pub others : bytes_eq (units_in left) (units_to_come units) ≡ bytes_eq (units_in bytes) (units_of text)

pub Compares-none : (bytes text : List ℕ) (units : EncodeUtf16) → IsUtf8 text → encode_utf16_rest units ≡ text → encode_utf16_pending units ≡ [] → Compares bytes text bytes units
Compares-none bytes text units spelled rest pending = record {
  spelled = subst (λ (text : List ℕ). IsUtf8 text) (sym rest) spelled;
  others = ap (λ (units : List ℕ). bytes_eq (units_in bytes) units)
      (ap (λ (pending : List ℕ). pending ++ units_of (encode_utf16_rest units)) pending ∙ ap (λ (text : List ℕ). units_of text) rest);
}

-- what is left of both, where a unit of the text comes next
both_left : (bytes text left : List ℕ) (units after : EncodeUtf16) (unit : ℕ) → Compares bytes text left units → encode_utf16_steps units (Some unit) after
    → bytes_eq (units_in left) (unit ∷ units_to_come after) ≡ bytes_eq (units_in bytes) (units_of text)
both_left bytes text left units after unit before steps =
    ap (λ (others : List ℕ). bytes_eq (units_in left) others) (sym (units_to_come-next units after unit before.spelled steps).1) ∙ before.others

pub Compares-next : (bytes text left behind : List ℕ) (units after : EncodeUtf16) (other unit : ℕ) → Compares bytes text left units → units_in left ≡ other ∷ units_in behind
    → other ≡ unit → encode_utf16_steps units (Some unit) after → Compares bytes text behind after
Compares-next bytes text left behind units after other unit before first same steps = record {
  spelled = (units_to_come-next units after unit before.spelled steps).0;
  others =
      rw (eq-eqb other unit same) at (ap (λ (front : List ℕ). bytes_eq front (unit ∷ units_to_come after)) (sym first) ∙ both_left bytes text left units after unit before steps);
}

pub Compares-stops : (bytes text left : List ℕ) (units after : EncodeUtf16) (unit : ℕ) → Compares bytes text left units → units_in left ≡ []
    → encode_utf16_steps units (Some unit) after → false ≡ bytes_eq (units_in bytes) (units_of text)
Compares-stops bytes text left units after unit before nothing steps =
    ap (λ (front : List ℕ). bytes_eq front (unit ∷ units_to_come after)) (sym nothing) ∙ both_left bytes text left units after unit before steps

pub Compares-differs : (bytes text left behind : List ℕ) (units after : EncodeUtf16) (other unit : ℕ) → Compares bytes text left units → units_in left ≡ other ∷ units_in behind
    → other ≢ unit → encode_utf16_steps units (Some unit) after → false ≡ bytes_eq (units_in bytes) (units_of text)
Compares-differs bytes text left behind units after other unit before first differs steps =
    rw (ne_eqb other unit differs) at (ap (λ (front : List ℕ). bytes_eq front (unit ∷ units_to_come after)) (sym first) ∙ both_left bytes text left units after unit before steps)

-- no unit is left where two bytes are not left
no_unit : (left : List ℕ) → nat_lt (length left) 2 ≡ bytes_eq (units_in left) []
unfolding units_in
no_unit [] = refl
no_unit (_ ∷ []) = refl
no_unit (low ∷ high ∷ left) = le-ltb (length (low ∷ high ∷ left)) 2 (omega arith)

pub Compares-end : (bytes text left : List ℕ) (units : EncodeUtf16) → Compares bytes text left units → encode_utf16_pending units ≡ [] → length (encode_utf16_rest units) ≡ 0
    → nat_lt (length left) 2 ≡ bytes_eq (units_in bytes) (units_of text)
unfolding units_of
Compares-end bytes text left units before pending rest =
    let nothing : units_to_come units ≡ [] =
    ap (λ (pending : List ℕ). pending ++ units_of (encode_utf16_rest units)) pending
    ∙ ap (λ (text : List ℕ). units_of text) (nil_from_length (encode_utf16_rest units) rest) ∙ ap (λ (cs : List ℕ). flat_map encode_utf16 cs) chars-nil in
    no_unit left ∙ ap (λ (others : List ℕ). bytes_eq (units_in left) others) (sym nothing) ∙ before.others

pub ruleset compares = (Compares-none)
