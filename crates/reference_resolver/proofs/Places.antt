-- Selection as one best after the other, and selection told of places, are one.
use Rattle.std.proofs.Common.{◌≡◌, ◌⊎◌, ◌<◌, ◌+◌, inl, inr, ℕ, suc, Bool, true, false, List, [], ◌∷◌, length, Option, Some, None, refl, sym, ◌∙◌, ap, subst, arith}
use Rattle.std.specs.Prelude.{slice_get, ◌&&◌, if◌then◌else◌}
use Rattle.std.proofs.lemmas.Bool.{cases_lt}
use Rattle.std.proofs.lemmas.Option.{slice_get_within}
use Rattle.config_precedence.specs.config_match.Matching.{is_match}
use Rattle.overlay_map.specs.Candidates.{CandOf}
use Rattle.reference_resolver.specs.declared.step.Step.{Step}
use Rattle.reference_resolver.specs.declared.step.Step.TheVariants.{NoMatch, KeptOut, TookOver}
use Rattle.reference_resolver.specs.Selection.{beats_best, step_of, best_after, scan_candidates, best_of}
use Rattle.reference_resolver.specs.Takers.{takes_over, ArePassedOver, AreTakers, last_taker, places_taken, IsTheSelected}

-- from a place on these candidates stand
pub record StandsAt (all : List CandOf) (from : ℕ) (left : List CandOf) : Type 0 where
  pub get : (k place : ℕ) → place ≡ from + k → slice_get all place ≡ slice_get left k
  pub count : length all ≡ from + length left

pub stands_all : (all : List CandOf) → StandsAt all 0 all
stands_all all = record {
  get = λ k place e. (let same : place ≡ k = omega arith in ap (λ n. slice_get all n) same);
  count = omega arith;
}

pub stands_next : (all : List CandOf) (from : ℕ) (first : CandOf) (left : List CandOf) → StandsAt all from (first ∷ left) → StandsAt all (from + 1) left
stands_next all from first left stands = record {
  get = λ k place e. stands.get (suc k) place (omega arith);
  count = omega (arith, stands.count);
}

pub stands_first : (all : List CandOf) (from : ℕ) (first : CandOf) (left : List CandOf) → StandsAt all from (first ∷ left) → slice_get all from ≡ Some first
stands_first all from first left stands = stands.get 0 from (omega arith)

-- one place has one candidate
pub same_place : (all : List CandOf) (i j : ℕ) (a b : CandOf) → i ≡ j → slice_get all i ≡ Some a → slice_get all j ≡ Some b → a ≡ b
same_place all i j a b same at_i at_j = let e : Some a ≡ Some b = sym at_i ∙ ap (λ n. slice_get all n) same ∙ at_j in cc

-- ---- a step

takes_both : (last : Option CandOf) (c : CandOf) (d : List ℕ) → takes_over last c d ≡ (is_match c.row.config d && beats_best last c d)
takes_both None c d = and_true (is_match c.row.config d)
  where
    and_true : (x : Bool) → x ≡ (x && true)
    and_true true = refl
    and_true false = refl
takes_both (Some best) c d = refl

-- a candidate that matches (x) and beats the best (y) takes over (z)
cases_by : (last : Option CandOf) (c : CandOf) (x y z : Bool) → z ≡ (x && y)
    → ((z ≡ true) × ((if x then (if y then TookOver else KeptOut) else NoMatch) ≡ TookOver))
    ⊎ ((z ≡ false) × (best_after (if x then (if y then TookOver else KeptOut) else NoMatch) last c ≡ last)
    × ((from : ℕ) (steps : List Step) → places_taken from ((if x then (if y then TookOver else KeptOut) else NoMatch) ∷ steps) ≡ places_taken (from + 1) steps))
cases_by last c false y z e = inr (e, refl, (λ from steps. refl))
cases_by last c true false z e = inr (e, refl, (λ from steps. refl))
cases_by last c true true z e = inl (e, refl)

-- a candidate takes over, or the best stays
step_cases : (last : Option CandOf) (c : CandOf) (d : List ℕ)
    → ((takes_over last c d ≡ true) × (step_of last c d ≡ TookOver))
    ⊎ ((takes_over last c d ≡ false) × (best_after (step_of last c d) last c ≡ last)
    × ((from : ℕ) (steps : List Step) → places_taken from (step_of last c d ∷ steps) ≡ places_taken (from + 1) steps))
step_cases last c d = cases_by last c (is_match c.row.config d) (beats_best last c d) (takes_over last c d) (takes_both last c d)

-- ---- there is one

-- a place more that is passed over
pass_more : (all : List CandOf) (d : List ℕ) (last : Option CandOf) (from to : ℕ) (c : CandOf) → slice_get all from ≡ Some c → takes_over last c d ≡ false
    → ArePassedOver all d last (from + 1) to → ArePassedOver all d last from to
pass_more all d last from to c at_from kept passed =
    λ place x p q at_place. elim (cases_lt from place) [
      | inl lt ↦ passed place x (omega arith) q at_place
      | inr le ↦ (let e : x ≡ c = same_place all place from x c (omega arith) at_place at_from in ap (λ y. takes_over last y d) e ∙ kept)
    ]

takers_more : (all : List CandOf) (d : List ℕ) (last : Option CandOf) (from : ℕ) (c : CandOf) (places : List ℕ) → slice_get all from ≡ Some c → takes_over last c d ≡ false
    → AreTakers all d last (from + 1) places → AreTakers all d last from places
takers_more all d last from c [] at_from kept passed = pass_more all d last from (length all) c at_from kept passed
takers_more all d last from c (place ∷ places) at_from kept takers =
    (omega (arith, takers.0), pass_more all d last from place c at_from kept takers.1, takers.2)

-- the best of all is the candidate at the last taker, and the takers are those of the steps
selects : (all : List CandOf) (from : ℕ) (left : List CandOf) (last : Option CandOf) (d : List ℕ) → StandsAt all from left
    → (places : List ℕ) × AreTakers all d last from places × (best_of last left d ≡ last_taker all last places)
    × (places ≡ places_taken from (scan_candidates step_of last left d))
selects all from [] last d stands = ([], (λ place c p q e. let n : length all ≡ from + 0 = stands.count in absurd (omega arith)), refl, refl)
selects all from (c ∷ left) last d stands =
    let e = stands_first all from c left stands in
    elim (step_cases last c d) [
      | inl taken ↦ (let rest = selects all (from + 1) left (Some c) d (stands_next all from c left stands) in (
        from ∷ rest.0,
        (omega arith, (λ place x p q g. absurd (omega arith)), (c, e, taken.0, rest.1)),
        ap (λ z. best_of (best_after z last c) left d) taken.1 ∙ rest.2 ∙ ap (λ o. last_taker all o rest.0) (sym e),
        ap (λ (places : List ℕ). from ∷ places) rest.3 ∙ ap (λ (z : Step). places_taken from (z ∷ scan_candidates step_of (best_after z last c) left d)) (sym taken.1),
      ))
      | inr kept ↦ (let rest = selects all (from + 1) left last d (stands_next all from c left stands) in (
        rest.0,
        takers_more all d last from c rest.0 e kept.0 rest.1,
        ap (λ o. best_of o left d) kept.1 ∙ rest.2,
        rest.3
            ∙ ap (λ o. places_taken (from + 1) (scan_candidates step_of o left d)) (sym kept.1)
            ∙ sym (kept.2 from (scan_candidates step_of (best_after (step_of last c d) last c) left d)),
      ))
    ]

-- ---- there is no other

pub contradicts : (x : Bool) → x ≡ true → x ≡ false → ⊥
contradicts x holds fails = let e : true ≡ false = sym holds ∙ fails in cc

only : (all : List CandOf) (from : ℕ) (left : List CandOf) (last : Option CandOf) (d : List ℕ) (places : List ℕ) → StandsAt all from left
    → AreTakers all d last from places → last_taker all last places ≡ best_of last left d
only all from [] last d [] stands takers = refl
only all from [] last d (place ∷ places) stands takers =
    let n : length all ≡ from + 0 = stands.count in
    let within : place < length all = slice_get_within all place takers.2.0 takers.2.1 in
    let rises = takers.0 in
    absurd (omega arith)
only all from (c ∷ left) last d [] stands takers =
    let e = stands_first all from c left stands in
    let within = slice_get_within all from c e in
    elim (step_cases last c d) [
      | inl taken ↦ absurd (contradicts (takes_over last c d) taken.0 (takers from c (omega arith) within e))
      | inr kept ↦ only all (from + 1) left last d [] (stands_next all from c left stands) (λ place x p q g. takers place x (omega arith) q g) ∙ ap (λ o. best_of o left d) (sym kept.1)
    ]
only all from (c ∷ left) last d (place ∷ places) stands takers =
    let e = stands_first all from c left stands in
    let rises = takers.0 in
    elim (cases_lt from place) [
      | inl lt ↦ elim (step_cases last c d) [
        | inl taken ↦ absurd (contradicts (takes_over last c d) taken.0 (takers.1 from c (omega arith) lt e))
        | inr kept ↦ only all (from + 1) left last d (place ∷ places) (stands_next all from c left stands) (omega arith, (λ n x p q g. takers.1 n x (omega arith) q g), takers.2) ∙ ap (λ o. best_of o left d) (sym kept.1)
      ]
      | inr le ↦ (let same : place ≡ from = omega arith in
          let is_c : takers.2.0 ≡ c = same_place all place from takers.2.0 c same takers.2.1 e in
          let takes : takes_over last c d ≡ true = ap (λ y. takes_over last y d) (sym is_c) ∙ takers.2.2 in
          let at_place : slice_get all place ≡ Some c = takers.2.1 ∙ ap (λ y. Some y) is_c in
          let rest : AreTakers all d (Some c) (from + 1) places =
          subst (λ (y : CandOf). AreTakers all d (Some y) (from + 1) places) is_c (subst (λ (n : ℕ). AreTakers all d (Some takers.2.0) (n + 1) places) same takers.2.3) in
          elim (step_cases last c d) [
            | inl taken ↦ ap (λ o. last_taker all o places) at_place ∙ only all (from + 1) left (Some c) d places (stands_next all from c left stands) rest ∙ ap (λ z. best_of (best_after z last c) left d) (sym taken.1)
            | inr kept ↦ absurd (contradicts (takes_over last c d) takes kept.0)
          ])
    ]

pub best_is_selected : (all : List CandOf) (d : List ℕ) → IsTheSelected all d (best_of None all d)
best_is_selected all d =
    let selection = selects all 0 all None d (stands_all all) in
    record {
      is = (selection.0, selection.1, selection.2);
      only = λ other h. h.2 ∙ only all 0 all None d h.0 (stands_all all) h.1;
      steps = subst (λ (places : List ℕ). AreTakers all d None 0 places) selection.3 selection.1;
    }
