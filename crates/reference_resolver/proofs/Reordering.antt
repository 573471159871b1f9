-- Where elements stand after two of them were swapped.
use Rattle.std.proofs.Common.{◌≡◌, ◌≢◌, ◌⊎◌, ◌<◌, inl, inr, ℕ, List, length, get_or, Some, refl, sym, ◌∙◌, ap, arith}
use Rattle.std.specs.Prelude.{◌==◌, if◌then◌else◌, slice_get, swap}
use Rattle.std.proofs.lemmas.Bool.{cases_eq, eq-eqb, ne_eqb}
use Rattle.std.proofs.lemmas.Option.{slice_get_within, slice_get_read, get_or_from_slice_get}
use Rattle.std.proofs.lemmas.List.Edits.{length-swap, swapped_from_swap}

-- where the element at k stands after those at i and j were swapped
unfoldable pub other : ℕ → ℕ → ℕ → ℕ
other i j k = if k == i then j else (if k == j then i else k)

other_cases : (i j k : ℕ) → ((k ≡ i) × (other i j k ≡ j)) ⊎ (((k ≡ j) × (other i j k ≡ i)) ⊎ ((k ≢ i) × (k ≢ j) × (other i j k ≡ k)))
unfolding other
other_cases i j k =
    elim (cases_eq k i) [
      | inl e ↦ inl (e, rw (eq-eqb k i e) refl)
      | inr n ↦ elim (cases_eq k j) [
        | inl e ↦ inr (inl (e, rw (ne_eqb k i n, eq-eqb k j e) refl))
        | inr m ↦ inr (inr (n, m, rw (ne_eqb k i n, ne_eqb k j m) refl))
      ]
    ]

other_twice : (i j k : ℕ) → other i j (other i j k) ≡ k
other_twice i j k =
    elim (other_cases i j k) [
      | inl first ↦ ap (other i j) first.1 ∙ elim (other_cases i j j) [
        | inl a ↦ a.1 ∙ a.0 ∙ sym first.0
        | inr b ↦ elim b [ inl a ↦ a.1 ∙ sym first.0 | inr a ↦ absurd (a.1 refl) ]
      ]
      | inr rest ↦ elim rest [
        | inl second ↦ ap (other i j) second.1 ∙ elim (other_cases i j i) [
          | inl a ↦ a.1 ∙ sym second.0
          | inr b ↦ elim b [ inl a ↦ a.1 ∙ a.0 ∙ sym second.0 | inr a ↦ absurd (a.0 refl) ]
        ]
        | inr neither ↦ ap (other i j) neither.2 ∙ neither.2
      ]
    ]

pub other_differs : (i j k l : ℕ) → k ≢ l → other i j k ≢ other i j l
other_differs i j k l differ same = differ (sym (other_twice i j k) ∙ ap (other i j) same ∙ other_twice i j l)

pub other_crosses : (i j k l : ℕ) → k ≢ other i j l → other i j k ≢ l
other_crosses i j k l differ same = differ (sym (other_twice i j k) ∙ ap (other i j) same)

reads : {X : Type 0} → (ys : List X) (at from : ℕ) (x : X) → at ≡ from → from < length ys → get_or ys from x ≡ x → slice_get ys at ≡ Some x
reads ys at from x same within e = ap (λ n. slice_get ys n) same ∙ slice_get_read ys (length ys) from x refl within (sym e)

-- what stood at k stands there
pub swapped_there : {X : Type 0} → (xs : List X) (i j k : ℕ) (x : X) → i < length xs → j < length xs → slice_get xs k ≡ Some x → slice_get (swap xs i j) (other i j k) ≡ Some x
swapped_there xs i j k x p q e =
    let within = slice_get_within xs k x e in
    let n = length-swap xs i j in
    let s = swapped_from_swap xs (swap xs i j) i j x p q refl in
    let value = get_or_from_slice_get xs k x x e in
    elim (other_cases i j k) [
      | inl first ↦ reads (swap xs i j) (other i j k) j x first.1 (omega arith) (s.1 ∙ ap (λ m. get_or xs m x) (sym first.0) ∙ value)
      | inr rest ↦ elim rest [
        | inl second ↦ reads (swap xs i j) (other i j k) i x second.1 (omega arith) (s.0 ∙ ap (λ m. get_or xs m x) (sym second.0) ∙ value)
        | inr neither ↦ reads (swap xs i j) (other i j k) k x neither.2 (omega arith) (s.2 k neither.0 neither.1 ∙ value)
      ]
    ]

-- and what stands at k stood there
pub swapped_back : {X : Type 0} → (xs : List X) (i j k : ℕ) (x : X) → i < length xs → j < length xs → slice_get (swap xs i j) k ≡ Some x → slice_get xs (other i j k) ≡ Some x
swapped_back xs i j k x p q e =
    let within = slice_get_within (swap xs i j) k x e in
    let n = length-swap xs i j in
    let s = swapped_from_swap xs (swap xs i j) i j x p q refl in
    let value = get_or_from_slice_get (swap xs i j) k x x e in
    elim (other_cases i j k) [
      | inl first ↦ reads xs (other i j k) j x first.1 q (sym s.0 ∙ ap (λ m. get_or (swap xs i j) m x) (sym first.0) ∙ value)
      | inr rest ↦ elim rest [
        | inl second ↦ reads xs (other i j k) i x second.1 p (sym s.1 ∙ ap (λ m. get_or (swap xs i j) m x) (sym second.0) ∙ value)
        | inr neither ↦ reads xs (other i j k) k x neither.2 (omega arith) (sym (s.2 k neither.0 neither.1) ∙ value)
      ]
    ]
