-- Which of some boxes has a device, where their order changes.
use Rattle.std.proofs.Common.{◌≡◌, ◌≢◌, ℕ, zero, suc, ◌<◌, inl, inr, arith, List, [], ◌∷◌, length, get_or, sym, ◌∙◌, ap, refl, subst}
use Rattle.std.specs.List.{swap, AllByRecursion}
use Rattle.std.specs.List.Sorted.{IsPermutation}
use Rattle.std.proofs.lemmas.Bool.{cases_eq}
use Rattle.std.proofs.lemmas.List.Edits.{Swapped, swapped_from_swap}
use Rattle.std.proofs.lemmas.List.Elements.{All-from_recursion, recursion_from_All}
use Rattle.std.proofs.lemmas.List.Sorted.{IsPermutation-keeps, IsPermutation-swap, length_permutation, All-permutation}
use Rattle.cert_maker.specs.box_answers.NumberSet.{SetOf}
use Rattle.cert_maker.specs.box_answers.Members.{IsMember}
use Rattle.config_box.specs.Devices.{HasNone, HasOnce}
use Rattle.stack_diff.specs.Once.{KeepsEach}

-- ---- by places

module _ (d : List ℕ) where
  abbrev Has : List (List SetOf) → ℕ → Type 0
  Has boxes k = IsMember (get_or boxes k []) d

  abbrev NoneBut : (ℕ → Type 0) → List (List SetOf) → Type 0
  NoneBut but boxes = (m : ℕ) → m < length boxes → (but m → ⊥) → Has boxes m → ⊥

  pub record OnceAt (boxes : List (List SetOf)) : Type 0 where
    pub place : ℕ
    pub within : place < length boxes
    pub here : Has boxes place
    pub others : NoneBut (λ m. m ≡ place) boxes

  none-at : (boxes : List (List SetOf)) → HasNone d boxes → (m : ℕ) → m < length boxes → Has boxes m → ⊥
  none-at [] h m low = absurd (omega (arith, low))
  none-at (part ∷ boxes) h zero low = h.0
  none-at (part ∷ boxes) h (suc m) low = none-at boxes h.1 m (omega arith)

  none-of : (boxes : List (List SetOf)) → ((m : ℕ) → m < length boxes → Has boxes m → ⊥) → HasNone d boxes
  none-of [] h = tt
  none-of (part ∷ boxes) h = (h 0 (omega arith), none-of boxes (λ m low. h (suc m) (omega arith)))

  behind-first : (part : List SetOf) (boxes : List (List SetOf)) → (IsMember part d → ⊥) → OnceAt boxes → OnceAt (part ∷ boxes)
  behind-first part boxes not o = record {
    place = suc o.place;
    within = let w = o.within in omega (arith, w);
    here = o.here;
    others = others;
  }
    where
      others : NoneBut (λ m. m ≡ suc o.place) (part ∷ boxes)
      others zero low other = not
      others (suc m) low other = o.others m (omega arith) (λ e. other (ap suc e))

  pub once-at : (boxes : List (List SetOf)) → HasOnce d boxes → OnceAt boxes
  once-at [] h = absurd h
  once-at (part ∷ boxes) (inl h) = record {
    place = 0;
    within = omega arith;
    here = h.0;
    others = others;
  }
    where
      others : NoneBut (λ m. m ≡ 0) (part ∷ boxes)
      others zero low other = absurd (other refl)
      others (suc m) low other = none-at boxes h.1 m (omega arith)
  once-at (part ∷ boxes) (inr h) = behind-first part boxes h.0 (once-at boxes h.1)

  once-from : (boxes : List (List SetOf)) (k : ℕ) → k < length boxes → Has boxes k → NoneBut (λ m. m ≡ k) boxes → HasOnce d boxes
  once-from [] k low here others = absurd (omega (arith, low))
  once-from (part ∷ boxes) zero low here others = inl (here, none-of boxes (λ m less. others (suc m) (omega arith) (λ e. absurd (omega (arith, e)))))
  once-from (part ∷ boxes) (suc k) low here others =
      inr (others 0 (omega arith) (λ e. absurd (omega (arith, e))), once-from boxes k (omega arith) here (λ m less other. others (suc m) (omega arith) (λ e. other (omega (arith, e)))))

  -- ---- two that change places

  module _ (boxes moved : List (List SetOf)) (a b : ℕ) (p : a < length boxes) (q : b < length boxes) (long : length moved ≡ length boxes) (s : Swapped (λ i. get_or boxes i []) (λ i. get_or moved i []) a b) where
    at-a : Has moved a → Has boxes b
    at-a = subst (λ (part : List SetOf). IsMember part d) s.0

    at-b : Has moved b → Has boxes a
    at-b = subst (λ (part : List SetOf). IsMember part d) s.1

    elsewhere : (m : ℕ) → m ≢ a → m ≢ b → Has moved m → Has boxes m
    elsewhere m e f = subst (λ (part : List SetOf). IsMember part d) (s.2 m e f)

    move-here : (m k : ℕ) → (m ≡ k) → Has moved m → Has moved k
    move-here m k e = subst (λ (n : ℕ). Has moved n) e

    others-of : (o : OnceAt boxes) (k : ℕ) → (a ≡ o.place → b ≡ k) → (b ≡ o.place → a ≢ o.place → a ≡ k) → (o.place ≢ a → o.place ≢ b → o.place ≡ k)
        → (m : ℕ) → m < length moved → m ≢ k → Has moved m → ⊥
    others-of o k from_a from_b from_else m low other has =
        elim (cases_eq m a) [
          | inl is_a ↦ elim (cases_eq b o.place) [
            | inl there ↦ elim (cases_eq a o.place) [
              | inl both ↦ other (is_a ∙ both ∙ sym there ∙ from_a both)
              | inr apart ↦ other (is_a ∙ from_b there apart)
            ]
            | inr apart ↦ o.others b q apart (at-a (move-here m a is_a has))
          ]
          | inr not_a ↦ elim (cases_eq m b) [
            | inl is_b ↦ elim (cases_eq a o.place) [
              | inl there ↦ other (is_b ∙ from_a there)
              | inr apart ↦ o.others a p apart (at-b (move-here m b is_b has))
            ]
            | inr not_b ↦ elim (cases_eq m o.place) [
              | inl there ↦ other (there ∙ from_else (λ e. not_a (there ∙ e)) (λ e. not_b (there ∙ e)))
              | inr apart ↦ o.others m (omega (arith, low, long)) apart (elsewhere m not_a not_b has)
            ]
          ]
        ]

    found-at : (o : OnceAt boxes) (k : ℕ) → k < length boxes → Has moved k → (a ≡ o.place → b ≡ k) → (b ≡ o.place → a ≢ o.place → a ≡ k) → (o.place ≢ a → o.place ≢ b → o.place ≡ k) → HasOnce d moved
    found-at o k low here from_a from_b from_else = once-from moved k (omega (arith, low, long)) here (others-of o k from_a from_b from_else)

    pub once-swapped : HasOnce d boxes → HasOnce d moved
    once-swapped h =
        let o = once-at boxes h in
        elim (cases_eq a o.place) [
          | inl is_a ↦ found-at o b q (subst (λ (part : List SetOf). IsMember part d) (sym s.1) (subst (λ (n : ℕ). Has boxes n) (sym is_a) o.here)) (λ e. refl) (λ e f. absurd (f is_a)) (λ e f. absurd (e (sym is_a)))
          | inr not_a ↦ elim (cases_eq b o.place) [
            | inl is_b ↦ found-at o a p (subst (λ (part : List SetOf). IsMember part d) (sym s.0) (subst (λ (n : ℕ). Has boxes n) (sym is_b) o.here)) (λ e. absurd (not_a e)) (λ e f. refl) (λ e f. absurd (f (sym is_b)))
            | inr not_b ↦ found-at o o.place o.within (subst (λ (part : List SetOf). IsMember part d) (sym (s.2 o.place (λ e. not_a (sym e)) (λ e. not_b (sym e)))) o.here) (λ e. absurd (not_a e)) (λ e f. absurd (not_b e)) (λ e f. refl)
          ]
        ]

-- ---- any order

pub once-permuted : (d : List ℕ) (boxes moved : List (List SetOf)) → IsPermutation boxes moved → HasOnce d boxes → HasOnce d moved
once-permuted d boxes moved perm h =
    IsPermutation-keeps boxes (λ (parts : List (List SetOf)). HasOnce d parts) h
    (λ parts i j p q k. once-swapped d parts (swap parts i j) i j p q (length_permutation parts (swap parts i j) (IsPermutation-swap parts (swap parts i j) i j p q refl)) (swapped_from_swap parts (swap parts i j) i j [] p q refl) k)
    moved perm

-- to have none is by recursion what `All` says by places
none-to-recursion : (d : List ℕ) (boxes : List (List SetOf)) → HasNone d boxes → AllByRecursion (λ (part : List SetOf). IsMember part d → ⊥) boxes
none-to-recursion d [] h = tt
none-to-recursion d (part ∷ boxes) h = (h.0, none-to-recursion d boxes h.1)

none-from-recursion : (d : List ℕ) (boxes : List (List SetOf)) → AllByRecursion (λ (part : List SetOf). IsMember part d → ⊥) boxes → HasNone d boxes
none-from-recursion d [] h = tt
none-from-recursion d (part ∷ boxes) h = (h.0, none-from-recursion d boxes h.1)

pub none-permuted : (d : List ℕ) (boxes moved : List (List SetOf)) → IsPermutation boxes moved → HasNone d boxes → HasNone d moved
none-permuted d boxes moved perm h =
    none-from-recursion d moved
    (recursion_from_All _ moved (All-permutation (λ (part : List SetOf). IsMember part d → ⊥) boxes moved perm (All-from_recursion _ boxes (none-to-recursion d boxes h))))

pub keeps-permuted : (boxes moved : List (List SetOf)) → IsPermutation boxes moved → KeepsEach boxes moved
keeps-permuted boxes moved perm = record { none = λ d h. none-permuted d boxes moved perm h; once = λ d h. once-permuted d boxes moved perm h }
