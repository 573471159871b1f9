-- Where of any two candidates that match exactly one is better, the best is better than all others.
use Rattle.std.proofs.Common.{◌≡◌, ◌≢◌, ◌<◌, ◌+◌, inl, inr, ℕ, Bool, true, false, List, [], ◌∷◌, Some, None, refl, sym, ◌∙◌, ap, arith}
use Rattle.std.specs.Prelude.{slice_get, ◌||◌, not}
use Rattle.std.proofs.lemmas.Bool.{cases_lt, cases_eq, cases_Bool}
use Rattle.std.proofs.lemmas.Option.{slice_get_within}
use Rattle.config_precedence.specs.config_match.Matching.{is_match}
use Rattle.config_precedence.specs.Precedence.{is_better}
use Rattle.config_precedence.specs.Laws.{IsComparedPlainly}
use Rattle.config_precedence.proofs.Laws.{transitive}
use Rattle.overlay_map.specs.Candidates.{CandOf}
use Rattle.reference_resolver.specs.Selection.{beats, best_of}
use Rattle.reference_resolver.specs.OrderLaw.{ExactlyOneIsBetter, IsBetterThanAllOthers}
use Rattle.reference_resolver.proofs.Places.{StandsAt, stands_all, stands_next, stands_first, same_place, contradicts}

abbrev pub Matches : List ℕ → CandOf → Type 0
Matches d c = is_match c.row.config d ≡ true

abbrev pub IsBetter : List ℕ → CandOf → CandOf → Type 0
IsBetter d a b = is_better a.row.config b.row.config d ≡ true

-- the device is compared by language and region; none is of an overlay, one matches, and of any two that match exactly one is better
pub record IsDecided (d : List ℕ) (all : List CandOf) : Type 0 where
  pub plain : IsComparedPlainly d
  pub bases : (i : ℕ) (c : CandOf) → slice_get all i ≡ Some c → c.overlay ≡ false
  pub place : ℕ
  pub found : CandOf
  pub stands : slice_get all place ≡ Some found
  pub matches : Matches d found
  pub one : (i j : ℕ) (a b : CandOf) → i ≢ j → slice_get all i ≡ Some a → slice_get all j ≡ Some b → ExactlyOneIsBetter d a b

-- the second is not better than the first
pub not_both : (d : List ℕ) (a b : CandOf) → IsBetter d a b → ExactlyOneIsBetter d a b → Matches d a → Matches d b → is_better b.row.config a.row.config d ≡ false
not_both d a b better one fits_a fits_b = flip (is_better a.row.config b.row.config d) (is_better b.row.config a.row.config d) better (one fits_a fits_b)
  where
    flip : (x y : Bool) → x ≡ true → x ≡ not y → y ≡ false
    flip x true is e = let h : true ≡ false = sym is ∙ e in absurd cc
    flip x false is e = refl

beats_base : (d : List ℕ) (c best : CandOf) → c.overlay ≡ false → beats c best d ≡ is_better c.row.config best.row.config d
unfolding beats
beats_base d c best base = rw base (or_false (is_better c.row.config best.row.config d))
  where
    or_false : (x : Bool) → (x || false) ≡ x
    or_false true = refl
    or_false false = refl

-- of the candidates before a place this matches and is better than all others
record IsBestBefore (d : List ℕ) (all : List CandOf) (end : ℕ) (best : CandOf) : Type 0 where
  place : ℕ
  before : place < end
  stands : slice_get all place ≡ Some best
  matches : Matches d best
  better : (other : ℕ) (c : CandOf) → other < end → other ≢ place → slice_get all other ≡ Some c → Matches d c → IsBetter d best c

-- a candidate more, which does not match
passes : (d : List ℕ) (all : List CandOf) (end : ℕ) (best c : CandOf) → slice_get all end ≡ Some c → is_match c.row.config d ≡ false → IsBestBefore d all end best → IsBestBefore d all (end + 1) best
passes d all end best c at_end unfit h = record {
  place = h.place;
  before = omega (arith, h.before);
  stands = h.stands;
  matches = h.matches;
  better = λ other x p n e fits. elim (cases_lt other end) [
    | inl lt ↦ h.better other x lt n e fits
    | inr le ↦ (let same : x ≡ c = same_place all other end x c (omega arith) e at_end in
        absurd (contradicts (is_match x.row.config d) fits (ap (λ (y : CandOf). is_match y.row.config d) same ∙ unfit)))
  ];
}

-- a candidate more, than which the best is better
stays : (d : List ℕ) (all : List CandOf) (end : ℕ) (best c : CandOf) → slice_get all end ≡ Some c → IsBetter d best c → IsBestBefore d all end best → IsBestBefore d all (end + 1) best
stays d all end best c at_end better h = record {
  place = h.place;
  before = omega (arith, h.before);
  stands = h.stands;
  matches = h.matches;
  better = λ other x p n e fits. elim (cases_lt other end) [
    | inl lt ↦ h.better other x lt n e fits
    | inr le ↦ (let same : x ≡ c = same_place all other end x c (omega arith) e at_end in ap (λ (y : CandOf). is_better best.row.config y.row.config d) same ∙ better)
  ];
}

-- a candidate more, which is better than the best
climbs : (d : List ℕ) (all : List CandOf) (end : ℕ) (best c : CandOf) → IsDecided d all → slice_get all end ≡ Some c → Matches d c → IsBetter d c best → IsBestBefore d all end best → IsBestBefore d all (end + 1) c
climbs d all end best c decided at_end fits_c over h = record {
  place = end;
  before = omega arith;
  stands = at_end;
  matches = fits_c;
  better = λ other x p n e fits. elim (cases_eq other h.place) [
    | inl same ↦ (let is_best : x ≡ best = same_place all other h.place x best same e h.stands in ap (λ (y : CandOf). is_better c.row.config y.row.config d) is_best ∙ over)
    | inr differ ↦ (let below : other < end = omega arith in
        let under : IsBetter d best x = h.better other x below differ e fits in
        let before = h.before in
        let first : end ≢ h.place = λ same. absurd (omega arith) in
        let second : h.place ≢ other = λ same. differ (sym same) in
        (transitive c.row.config best.row.config d decided.plain x.row.config fits_c h.matches fits
        (over, not_both d c best over (decided.one end h.place c best first at_end h.stands) fits_c h.matches)
        (under, not_both d best x under (decided.one h.place other best x second h.stands e) h.matches fits)).0)
  ];
}

-- the best is better, where the other is not
other_is : (d : List ℕ) (all : List CandOf) (end : ℕ) (best c : CandOf) → IsDecided d all → slice_get all end ≡ Some c → Matches d c → is_better c.row.config best.row.config d ≡ false → IsBestBefore d all end best → IsBetter d best c
other_is d all end best c decided at_end fits under h =
    let before = h.before in
    let differ : h.place ≢ end = λ same. absurd (omega arith) in
    decided.one h.place end best c differ h.stands at_end h.matches fits ∙ ap not under

highest : (d : List ℕ) (all : List CandOf) (from : ℕ) (left : List CandOf) (best : CandOf) → IsDecided d all → StandsAt all from left → IsBestBefore d all from best
    → (top : CandOf) × (best_of (Some best) left d ≡ Some top) × IsBetterThanAllOthers all d top
highest d all from [] best decided stands h =
    let count = stands.count in (
      best,
      refl,
      record {
        place = h.place;
        stands = h.stands;
        matches = h.matches;
        better = λ other c n e fits. (let within = slice_get_within all other c e in h.better other c (omega arith) n e fits);
      },
    )
highest d all from (c ∷ left) best decided stands h =
    let at_from = stands_first all from c left stands in
    let next = stands_next all from c left stands in
    let beaten = beats_base d c best (decided.bases from c at_from) in
    elim (cases_Bool (is_match c.row.config d)) [
      | inr unfit ↦ rw unfit (highest d all (from + 1) left best decided next (passes d all from best c at_from unfit h))
      | inl fits ↦ elim (cases_Bool (is_better c.row.config best.row.config d)) [
        | inl over ↦ rw (fits, beaten, over) (highest d all (from + 1) left c decided next (climbs d all from best c decided at_from fits over h))
        | inr under ↦ rw (fits, beaten, under) (highest d all (from + 1) left best decided next (stays d all from best c at_from (other_is d all from best c decided at_from fits under h) h))
      ]
    ]

before_any : (d : List ℕ) (all : List CandOf) (from : ℕ) (left : List CandOf) → IsDecided d all → StandsAt all from left
    → ((i : ℕ) (c : CandOf) → i < from → slice_get all i ≡ Some c → is_match c.row.config d ≡ false)
    → (top : CandOf) × (best_of None left d ≡ Some top) × IsBetterThanAllOthers all d top
before_any d all from [] decided stands none =
    let count = stands.count in
    let within = slice_get_within all decided.place decided.found decided.stands in
    absurd (contradicts _ decided.matches (none decided.place decided.found (omega arith) decided.stands))
before_any d all from (c ∷ left) decided stands none =
    let at_from = stands_first all from c left stands in
    let next = stands_next all from c left stands in
    elim (cases_Bool (is_match c.row.config d)) [
      | inr unfit ↦ rw unfit (before_any d all (from + 1) left decided next (λ i x p e. elim (cases_lt i from) [
        | inl lt ↦ none i x lt e
        | inr le ↦ (let same : x ≡ c = same_place all i from x c (omega arith) e at_from in ap (λ (y : CandOf). is_match y.row.config d) same ∙ unfit)
      ]))
      | inl fits ↦ rw fits (highest d all (from + 1) left c decided next (record {
        place = from;
        before = omega arith;
        stands = at_from;
        matches = fits;
        better = λ other x p n e suits. absurd (contradicts _ suits (none other x (omega arith) e));
      }))
    ]

pub best_is_better : (d : List ℕ) (all : List CandOf) → IsDecided d all → (top : CandOf) × (best_of None all d ≡ Some top) × IsBetterThanAllOthers all d top
best_is_better d all decided = before_any d all 0 all decided (stands_all all) (λ i c p e. absurd (omega arith))
