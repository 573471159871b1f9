-- How the parts of a line go on from a place.
use Rattle.std.proofs.Common.{◌≡◌, ℕ, ◌+◌, ◌-◌, ◌<◌, ◌≤◌, Bool, true, false, if◌then◌else◌, List, [], ◌∷◌, ◌++◌, length, take, drop, get_or, refl, sym, ap, ◌∙◌, append_assoc, arith}
use Rattle.std.proofs.lemmas.List.{drop_more, drop_all, take_more, take_all, append-nil, length-drop}
use Rattle.notation.specs.Parts.{ends_part, begun_by, parts_of}

chosen-first : (e : Bool) (first second : List (List ℕ)) → e ≡ true → (if e then first else second) ≡ first
chosen-first true first second is = refl
chosen-first false first second is = absurd (cc)

chosen-second : (e : Bool) (first second : List (List ℕ)) → e ≡ false → (if e then first else second) ≡ second
chosen-second false first second is = refl
chosen-second true first second is = absurd (cc)

-- what is put before parts twice stands there as a whole
begun_twice : (first second : List ℕ) (parts : List (List ℕ)) → begun_by first (begun_by second parts) ≡ begun_by (first ++ second) parts
begun_twice first second [] = refl
begun_twice first second (part ∷ parts) = ap (λ (text : List ℕ). text ∷ parts) (sym (append_assoc first second part))

parts_of-more : (byte : ℕ) (others : List ℕ) → ends_part byte others ≡ false → parts_of (byte ∷ others) ≡ begun_by (byte ∷ []) (parts_of others)
unfolding parts_of
parts_of-more byte others none = chosen-second (ends_part byte others) _ _ none

parts_of-ends : (byte : ℕ) (others : List ℕ) → ends_part byte others ≡ true → parts_of (byte ∷ others) ≡ [] ∷ parts_of others
unfolding parts_of
parts_of-ends byte others ends = chosen-first (ends_part byte others) _ _ ends

begun_empty : (line : List ℕ) → begun_by [] (parts_of line) ≡ parts_of line
unfolding parts_of
begun_empty [] = refl
begun_empty (byte ∷ others) = at_each (ends_part byte others) (parts_of others)
  where
    at_each : (e : Bool) (parts : List (List ℕ)) → begun_by [] (if e then [] ∷ parts else begun_by (byte ∷ []) parts) ≡ (if e then [] ∷ parts else begun_by (byte ∷ []) parts)
    at_each true parts = refl
    at_each false parts = begun_twice [] (byte ∷ []) parts

-- so many bytes have no end of a part among them
pub record NoEndBefore (place : ℕ) (line : List ℕ) : Type 0 where
  pub parts : begun_by (take place line) (parts_of (drop place line)) ≡ parts_of line

pub NoEndBefore-none : (line : List ℕ) → NoEndBefore 0 line
NoEndBefore-none line = record { parts = begun_empty line }

pub NoEndBefore-more : (place : ℕ) (line : List ℕ) (byte : ℕ) → NoEndBefore place line → place < length line → ends_part (get_or line place byte) (drop (place + 1) line) ≡ false → NoEndBefore (place + 1) line
NoEndBefore-more place line byte before on none =
    let this = get_or line place byte in
    let rest = drop (place + 1) line in
    record {
      parts =
          ap (λ (front : List ℕ). begun_by front (parts_of rest)) (take_more line place byte on)
          ∙ sym (begun_twice (take place line) (this ∷ []) (parts_of rest))
          ∙ ap (begun_by (take place line)) (sym (parts_of-more this rest none))
          ∙ ap (λ (left : List ℕ). begun_by (take place line) (parts_of left)) (sym (drop_more line place byte on))
          ∙ before.parts;
    }

pub ends_at : (place : ℕ) (line : List ℕ) (byte : ℕ) → NoEndBefore place line → place < length line → ends_part (get_or line place byte) (drop (place + 1) line) ≡ true
    → parts_of line ≡ take place line ∷ parts_of (drop (place + 1) line)
ends_at place line byte before on ends =
    let rest = drop (place + 1) line in
    sym before.parts
    ∙ ap (λ (left : List ℕ). begun_by (take place line) (parts_of left)) (drop_more line place byte on)
    ∙ ap (begun_by (take place line)) (parts_of-ends (get_or line place byte) rest ends)
    ∙ ap (λ (front : List ℕ). front ∷ parts_of rest) (append-nil (take place line))

pub ends_never : (place : ℕ) (line : List ℕ) → NoEndBefore place line → length line ≤ place → parts_of line ≡ line ∷ []
unfolding parts_of
ends_never place line before all =
    sym before.parts
    ∙ ap (λ (left : List ℕ). begun_by (take place line) (parts_of left)) (drop_all place line all)
    ∙ ap (λ (front : List ℕ). (front ++ []) ∷ []) (take_all place line all)
    ∙ ap (λ (front : List ℕ). front ∷ []) (append-nil line)

-- what stands behind a place, as code cuts it
pub whole : (place : ℕ) (line : List ℕ) → take (length line - (place + 1)) (drop (place + 1) line) ≡ drop (place + 1) line
whole place line = take_all (length line - (place + 1)) (drop (place + 1) line) (omega (arith, length-drop (place + 1) line))

pub ruleset part_steps = (NoEndBefore-none, ends_never)
