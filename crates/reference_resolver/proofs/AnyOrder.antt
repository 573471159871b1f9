-- The best of candidates in any order.
use Rattle.std.proofs.Common.{◌≡◌, ◌<◌, inl, inr, ℕ, Bool, true, false, List, length, get_or, Option, Some, None, refl, sym, ◌∙◌, ap, subst}
use Rattle.std.specs.Prelude.{slice_get, swap, not, All, Any, AllPairs, IsPermutation, IsTrue, IsFalse}
use Rattle.std.proofs.lemmas.Bool.{cases_eq, cases_order}
use Rattle.std.proofs.lemmas.Option.{slice_get_within, slice_get_read, get_or_from_slice_get}
use Rattle.std.proofs.lemmas.List.Sorted.{IsPermutation-keeps}
use Rattle.config_precedence.specs.config_match.Matching.{is_match}
use Rattle.config_precedence.specs.Laws.{IsComparedPlainly}
use Rattle.overlay_map.specs.Candidates.{CandOf}
use Rattle.reference_resolver.specs.Selection.{best_of}
use Rattle.reference_resolver.specs.Takers.{IsTheSelected}
use Rattle.reference_resolver.specs.OrderLaw.{ExactlyOneIsBetter, IsBetterThanAllOthers, OrderDoesNotMatter}
use Rattle.reference_resolver.proofs.Places.{same_place, contradicts, best_is_selected}
use Rattle.reference_resolver.proofs.Reordering.{other, other_differs, other_crosses, swapped_there, swapped_back}
use Rattle.reference_resolver.proofs.Best.{IsDecided, best_is_better, not_both}

-- ---- two are swapped

decided_swapped : (d : List ℕ) (all : List CandOf) (i j : ℕ) → i < length all → j < length all → IsDecided d all → IsDecided d (swap all i j)
decided_swapped d all i j p q h = record {
  plain = h.plain;
  bases = λ k c e. h.bases (other i j k) c (swapped_back all i j k c p q e);
  place = other i j h.place;
  found = h.found;
  stands = swapped_there all i j h.place h.found p q h.stands;
  matches = h.matches;
  one = λ k l a b differ at_k at_l. h.one (other i j k) (other i j l) a b (other_differs i j k l differ)
      (swapped_back all i j k a p q at_k) (swapped_back all i j l b p q at_l);
}

better_swapped : (d : List ℕ) (best : CandOf) (all : List CandOf) (i j : ℕ) → i < length all → j < length all → IsBetterThanAllOthers all d best → IsBetterThanAllOthers (swap all i j) d best
better_swapped d best all i j p q h = record {
  place = other i j h.place;
  stands = swapped_there all i j h.place best p q h.stands;
  matches = h.matches;
  better = λ k c differ at_k fits. h.better (other i j k) c (other_crosses i j k h.place differ) (swapped_back all i j k c p q at_k) fits;
}

-- ---- any order

decided_reordered : (d : List ℕ) (all reordered : List CandOf) → IsPermutation all reordered → IsDecided d all → IsDecided d reordered
decided_reordered d all reordered moved h = IsPermutation-keeps all (IsDecided d) h (decided_swapped d) reordered moved

better_reordered : (d : List ℕ) (best : CandOf) (all reordered : List CandOf) → IsPermutation all reordered → IsBetterThanAllOthers all d best → IsBetterThanAllOthers reordered d best
better_reordered d best all reordered moved h = IsPermutation-keeps all (λ cs. IsBetterThanAllOthers cs d best) h (better_swapped d best) reordered moved

-- one alone is better than all others
one_best : (d : List ℕ) (all : List CandOf) (a b : CandOf) → IsDecided d all → IsBetterThanAllOthers all d a → IsBetterThanAllOthers all d b → a ≡ b
one_best d all a b decided h k =
    elim (cases_eq h.place k.place) [
      | inl same ↦ same_place all h.place k.place a b same h.stands k.stands
      | inr differ ↦ absurd (contradicts _ (k.better h.place a differ h.stands h.matches)
          (not_both d a b (h.better k.place b (λ same. differ (sym same)) k.stands k.matches)
          (decided.one h.place k.place a b differ h.stands k.stands) h.matches k.matches))
    ]

any_order : (d : List ℕ) (all : List CandOf) → IsDecided d all
    → (best : CandOf) × (best_of None all d ≡ Some best) × IsBetterThanAllOthers all d best
    × ((reordered : List CandOf) → IsPermutation all reordered → IsTheSelected reordered d (Some best))
any_order d all decided =
    let here = best_is_better d all decided in (
      here.0,
      here.1,
      here.2,
      λ reordered moved.
          let moved_decided = decided_reordered d all reordered moved decided in
          let there = best_is_better d reordered moved_decided in
          let same : best_of None reordered d ≡ Some here.0 =
          there.1 ∙ ap (λ c. Some c) (one_best d reordered there.0 here.0 moved_decided there.2 (better_reordered d here.0 all reordered moved here.2)) in
          subst (λ (o : Option CandOf). IsTheSelected reordered d o) same (best_is_selected reordered d),
    )

-- ---- from the premises of the law

either_way : (x y : Bool) → x ≡ not y → y ≡ not x
either_way true true e = absurd cc
either_way true false e = refl
either_way false true e = refl
either_way false false e = absurd cc

pair_at : (d : List ℕ) (all : List CandOf) → AllPairs (ExactlyOneIsBetter d) all → (i j : ℕ) (a b : CandOf) → i < j → slice_get all i ≡ Some a → slice_get all j ≡ Some b → ExactlyOneIsBetter d a b
pair_at d all pairs i j a b lt at_i at_j =
    let within = slice_get_within all j b at_j in
    let pair = pairs i j a lt within in
    let first : get_or all i a ≡ a = get_or_from_slice_get all i a a at_i in
    let second : get_or all j a ≡ b = get_or_from_slice_get all j b a at_j in
    subst (λ (y : CandOf). ExactlyOneIsBetter d a y) second (subst (λ (x : CandOf). ExactlyOneIsBetter d x (get_or all j a)) first pair)

decided_from : (d : List ℕ) (all : List CandOf) → IsComparedPlainly d → All (λ candidate. IsFalse candidate.overlay) all → Any (λ candidate. IsTrue (is_match candidate.row.config d)) all → AllPairs (ExactlyOneIsBetter d) all → IsDecided d all
decided_from d all plain bases some pairs = record {
  plain = plain;
  bases = λ i c e. subst (λ (x : CandOf). x.overlay ≡ false) (get_or_from_slice_get all i c c e) (bases i c (slice_get_within all i c e));
  place = some.0;
  found = some.1;
  stands = slice_get_read all (length all) some.0 some.1 refl some.2 (sym some.3);
  matches = some.4;
  one = λ i j a b differ at_i at_j. elim (cases_order i j) [
    | inl same ↦ absurd (differ same)
    | inr rest ↦ elim rest [
      | inl lt ↦ pair_at d all pairs i j a b lt at_i at_j
      | inr gt ↦ (λ fits_a fits_b. either_way _ _ (pair_at d all pairs j i b a gt at_j at_i fits_b fits_a))
    ]
  ];
}

pub order_does_not_matter : (all : List CandOf) (d : List ℕ) → OrderDoesNotMatter all d (best_of None all d)
order_does_not_matter all d plain bases some pairs = any_order d all (decided_from d all plain bases some pairs)
