-- Two sets that make one, and two boxes.
use Rattle.std.proofs.Common.{◌≡◌, ◌≢◌, ℕ, ◌+◌, ◌<◌, ◌≤◌, inl, inr, arith, List, length, get_or, set, refl, sym, ap, subst, ◌∙◌}
use Rattle.std.specs.Prelude.{Contains, Some}
use Rattle.std.specs.List.Sorted.{IsStrictlyIncreasing}
use Rattle.std.proofs.lemmas.Bool.{cases_eq, cases_lt}
use Rattle.std.proofs.lemmas.List.{get_or-map, get_or-set_same, get_or-set_other}
use Rattle.std.proofs.lemmas.List.Elements.{Contains-get_or}
use Rattle.box_answers.specs.config_record.declared.coord.Coord.{Coord}
use Rattle.box_answers.specs.config_record.declared.coord.Coord.TheVariants as coords
use Rattle.box_answers.specs.config_record.locales.declared.locale.Locale.{Locale}
use Rattle.box_answers.specs.config_record.Coord.{all_coords, place_of}
use Rattle.box_answers.specs.config_record.ComparedNumber.{device_number}
use Rattle.box_answers.specs.config_record.locales.LocaleNumber.{locale_number}
use Rattle.box_answers.proofs.config_record.ChangedNumber.{by_coord, place_of-injective}
use Rattle.box_answers.specs.declared.number_set.NumberSet.{NumberSet}
use Rattle.box_answers.specs.NumberSet.{SetOf, RangeOf, NumbersOf, LocalesOf, set_of, locale_numbers, IsIn, IsProper}
use Rattle.box_answers.specs.Members.{sets_of, set_at, IsSetAt, IsBox}
use Rattle.box_answers.proofs.Coords.{all_coords-count, place_of-below}
use Rattle.config_box.specs.Choices.{put_all}
use Rattle.config_box.specs.Joined.{AreApart, MakeOneSet, IsJoinedSet, IsOneSet, CanJoinAt, CannotJoin, IsJoined, HasJoinedSets}
use Rattle.config_box.proofs.Filters.{among, contained}
use Rattle.config_box.proofs.ChoiceSteps.{rises-from, increasing, put_all-rises, put_all-count, put_all-among, among-put_all}
use Rattle.config_box.proofs.ReadSteps.{place-at}
use Rattle.config_box.proofs.HalfSteps.{kind-alike}

-- ---- what is read of a list

pub number-at : (locales : List Locale) (i n : ℕ) (d : Locale) → i < length locales → n ≡ locale_number (get_or locales i d) → get_or (locale_numbers locales) i 0 ≡ n
number-at locales i n d on is = get_or-map locale_number locales i d 0 on ∙ sym is

pub set-read : (sets : List NumberSet) (p : ℕ) (s : NumberSet) → p < length sets → s ≡ get_or sets p s → set_of s ≡ get_or (sets_of sets) p (RangeOf 0 0)
set-read sets p s on is = ap set_of is ∙ sym (get_or-map set_of sets p s (RangeOf 0 0) on)

-- ---- choices

pub choice-joined : (numbers others joined : List ℕ) → IsProper (NumbersOf numbers) → length numbers + length others ≤ 512 → joined ≡ put_all numbers others
    → IsJoinedSet (NumbersOf numbers) (NumbersOf others) (NumbersOf joined)
choice-joined numbers others joined proper few is =
    let count = put_all-count numbers others in
    let long = ap (λ (ns : List ℕ). length ns) is in
    let nonempty = proper.nonempty in record {
      numbers = λ n. (
        λ c. elim (put_all-among n numbers others (among n (put_all numbers others) (subst (λ (ns : List ℕ). Contains ns n) is c))) [
          | inl a ↦ inl (contained n numbers a)
          | inr a ↦ inr (contained n others a)
        ],
        λ c. subst (λ (ns : List ℕ). Contains ns n) (sym is) (contained n (put_all numbers others) (among-put_all n numbers others (elim c [
          | inl a ↦ inl (among n numbers a)
          | inr a ↦ inr (among n others a)
        ]))),
      );
      mark = tt;
      proper = record {
        nonempty = omega (arith, count.0);
        rises = subst IsStrictlyIncreasing (sym is) (increasing 0 (put_all numbers others) (put_all-rises numbers others (rises-from 0 numbers (λ q. omega arith) proper.rises)));
      };
      few = omega (arith, count.1);
    }

-- locales are joined as their numbers are
pub numbers-joined : (numbers others joined ns ms js : List ℕ) → ns ≡ numbers → ms ≡ others → joined ≡ js → IsOneSet (NumbersOf ns) (NumbersOf ms) (Some (NumbersOf js))
    → IsOneSet (NumbersOf numbers) (NumbersOf others) (Some (NumbersOf joined))
numbers-joined numbers others joined ns ms js first second third one =
    subst (λ (l : List ℕ). IsOneSet (NumbersOf l) (NumbersOf others) (Some (NumbersOf joined))) first (
    subst (λ (l : List ℕ). IsOneSet (NumbersOf ns) (NumbersOf l) (Some (NumbersOf joined))) second (subst (λ (l : List ℕ). IsOneSet (NumbersOf ns) (NumbersOf ms) (Some (NumbersOf l))) (sym third) one)
    )

pub locales-joined : (locales others joined ns ms js : List ℕ) → ns ≡ locales → ms ≡ others → joined ≡ js → IsOneSet (NumbersOf ns) (NumbersOf ms) (Some (NumbersOf js))
    → IsOneSet (LocalesOf locales) (LocalesOf others) (Some (LocalesOf joined))
locales-joined locales others joined ns ms js first second third one =
    let make : MakeOneSet (NumbersOf locales) (NumbersOf others) = subst (λ (l : List ℕ). MakeOneSet (NumbersOf l) (NumbersOf others)) first (subst (λ (l : List ℕ). MakeOneSet (NumbersOf ns) (NumbersOf l)) second one.0) in
    let j : IsJoinedSet (NumbersOf locales) (NumbersOf others) (NumbersOf joined) =
    subst (λ (l : List ℕ). IsJoinedSet (NumbersOf l) (NumbersOf others) (NumbersOf joined)) first (
    subst (λ (l : List ℕ). IsJoinedSet (NumbersOf ns) (NumbersOf l) (NumbersOf joined)) second (subst (λ (l : List ℕ). IsJoinedSet (NumbersOf ns) (NumbersOf ms) (NumbersOf l)) (sym third) one.1)
    ) in
    (make, record { numbers = j.numbers; mark = tt; proper = record { nonempty = j.proper.nonempty; rises = j.proper.rises }; few = j.few })

-- ---- sets that make one set

-- no set does so with itself
not-with_itself : (s : SetOf) → IsProper s → MakeOneSet s s → ⊥
not-with_itself (RangeOf low high) proper (inl e) = let le = proper.rises in omega arith
not-with_itself (RangeOf low high) proper (inr e) = let le = proper.rises in omega arith
not-with_itself (NumbersOf numbers) proper h = let first = Contains-get_or numbers 0 0 proper.nonempty in h.0 (get_or numbers 0 0) first first
not-with_itself (LocalesOf numbers) proper h = let first = Contains-get_or numbers 0 0 proper.nonempty in h.0 (get_or numbers 0 0) first first

-- they have nothing in common
one_set-apart : (s t : SetOf) → IsProper s → IsProper t → MakeOneSet s t → AreApart s t
one_set-apart (RangeOf low high) (RangeOf from to) p q (inl e) = λ n a b. omega (arith, a, b)
one_set-apart (RangeOf low high) (RangeOf from to) p q (inr e) = λ n a b. omega (arith, a, b)
one_set-apart (RangeOf low high) (NumbersOf others) p q h = absurd h
one_set-apart (RangeOf low high) (LocalesOf others) p q h = absurd h
one_set-apart (NumbersOf numbers) (NumbersOf others) p q h = h.0
one_set-apart (NumbersOf numbers) (RangeOf from to) p q h = absurd h
one_set-apart (NumbersOf numbers) (LocalesOf others) p q h = absurd h
one_set-apart (LocalesOf numbers) (LocalesOf others) p q h = h.0
one_set-apart (LocalesOf numbers) (RangeOf from to) p q h = absurd h
one_set-apart (LocalesOf numbers) (NumbersOf others) p q h = absurd h

-- ---- places

abbrev pub at_place : List SetOf → ℕ → SetOf
at_place sets p = get_or sets p (RangeOf 0 0)

pub coord-at : (p : ℕ) → p < 25 → (c : Coord) × (place_of c ≡ p)
coord-at p q = let on : p < length all_coords = omega (arith, all_coords-count) in (get_or all_coords p coords.Mcc, place-at p (get_or all_coords p coords.Mcc) coords.Mcc all_coords refl refl on)

pub proper-at : (sets : List SetOf) (p : ℕ) → IsBox sets → p < 25 → IsProper (at_place sets p)
proper-at sets p box q = let there = coord-at p q in subst (λ (i : ℕ). IsProper (at_place sets i)) there.1 (box.each there.0).proper

-- where they can be joined at a coordinate they are alike at each other place
alike-elsewhere : (a b : List SetOf) (c : Coord) (p : ℕ) → CanJoinAt a b c → p < 25 → place_of c ≢ p → at_place a p ≡ at_place b p
alike-elsewhere a b c p can q other =
    let there = coord-at p q in
    subst (λ (i : ℕ). at_place a i ≡ at_place b i) there.1 (can.others there.0 (λ e. other (ap place_of (sym e) ∙ there.1)))

pub none-differs : (a b : List SetOf) → IsBox a → ((k : ℕ) → 0 ≤ k → k < 25 → at_place a k ≡ at_place b k) → CannotJoin a b
none-differs a b box same c can =
    not-with_itself (set_at a c) (box.each c).proper
    (subst (λ (t : SetOf). MakeOneSet (set_at a c) t) (sym (same (place_of c) (omega arith) (place_of-below c))) can.here)

pub two-differ : (a b : List SetOf) (p q : ℕ) → p < q → q < 25 → at_place a p ≢ at_place b p → at_place a q ≢ at_place b q → CannotJoin a b
two-differ a b p q lt on first second c can =
    elim (cases_eq (place_of c) p) [
      | inl e ↦ second (alike-elsewhere a b c q can on (λ same. let far : p ≡ q = sym e ∙ same in omega arith))
      | inr ne ↦ first (alike-elsewhere a b c p can (omega arith) ne)
    ]

pub no-one_set : (a b : List SetOf) (p : ℕ) → p < 25 → at_place a p ≢ at_place b p → (MakeOneSet (at_place a p) (at_place b p) → ⊥) → CannotJoin a b
no-one_set a b p on differ never c can =
    elim (cases_eq (place_of c) p) [
      | inl e ↦ never (subst (λ (i : ℕ). MakeOneSet (at_place a i) (at_place b i)) e can.here)
      | inr ne ↦ differ (alike-elsewhere a b c p can on ne)
    ]

pub joined-at : (a b : List SetOf) (p : ℕ) (s : SetOf) → length a ≡ 25 → p < 25 → ((k : ℕ) → 0 ≤ k → k < p → at_place a k ≡ at_place b k) → ((k : ℕ) → p + 1 ≤ k → k < 25 → at_place a k ≡ at_place b k)
    → MakeOneSet (at_place a p) (at_place b p) → IsJoinedSet (at_place a p) (at_place b p) s → HasJoinedSets a b (set a p s)
joined-at a b p s count on before after one joined =
    let there = coord-at p on in
    let c : Coord = there.0 in
    let e : place_of c ≡ p = there.1 in
    let far : (k : Coord) → k ≢ c → place_of k ≢ p = λ k ne same. ne (same_place k c (same ∙ sym e)) in (
      c,
      record {
        can = record {
          here = subst (λ (i : ℕ). MakeOneSet (at_place a i) (at_place b i)) (sym e) one;
          others = λ k ne. elsewhere (place_of k) (far k ne) (place_of-below k);
        };
        here = subst (λ (t : SetOf). IsJoinedSet (set_at a c) (set_at b c) t) (sym (ap (λ (i : ℕ). at_place (set a p s) i) e ∙ get_or-set_same a p s (RangeOf 0 0) (omega arith)))
            (subst (λ (i : ℕ). IsJoinedSet (at_place a i) (at_place b i) s) (sym e) joined);
        others = λ k ne. get_or-set_other a p (place_of k) s (RangeOf 0 0) (far k ne);
      },
    )
  where
    same_place : (k c : Coord) → place_of k ≡ place_of c → k ≡ c
    same_place k c q = place_of-injective k c q

    elsewhere : (k : ℕ) → k ≢ p → k < 25 → at_place a k ≡ at_place b k
    elsewhere k ne q = elim (cases_lt k p) [ inl lt ↦ before k (omega arith) lt | inr ge ↦ after k (omega arith) q ]

-- ---- the box

-- a fact of the joined set's numbers where each of the two has it
pub joined-box : (a b joined : List SetOf) → length joined ≡ 25 → IsBox a → IsBox b → HasJoinedSets a b joined → IsJoined a b joined
joined-box a b joined count box_a box_b has =
    let c : Coord = has.0 in
    let j = has.1 in record {
      is_box = record { count = count; each = λ k. by_coord k c (λ e. subst (λ (i : Coord). IsSetAt i (set_at joined i)) (sym e) here) (λ ne. subst (IsSetAt k) (sym (j.others k ne)) (box_a.each k)) };
      members = λ d. (
        λ member. elim ((j.here.numbers (device_number d c)).0 (member c)) [
          | inl is ↦ inl (λ k. by_coord k c (λ e. subst (λ (i : Coord). IsIn (set_at a i) (device_number d i)) (sym e) is) (λ ne. subst (λ (s : SetOf). IsIn s (device_number d k)) (j.others k ne) (member k)))
          | inr is ↦ inr (λ k. by_coord k c (λ e. subst (λ (i : Coord). IsIn (set_at b i) (device_number d i)) (sym e) is)
              (λ ne. subst (λ (s : SetOf). IsIn s (device_number d k)) (j.others k ne ∙ j.can.others k ne) (member k)))
        ],
        λ either. elim either [
          | inl member ↦ (λ k. by_coord k c (λ e. subst (λ (i : Coord). IsIn (set_at joined i) (device_number d i)) (sym e) ((j.here.numbers (device_number d c)).1 (inl (member c))))
              (λ ne. subst (λ (s : SetOf). IsIn s (device_number d k)) (sym (j.others k ne)) (member k)))
          | inr member ↦ (λ k. by_coord k c (λ e. subst (λ (i : Coord). IsIn (set_at joined i) (device_number d i)) (sym e) ((j.here.numbers (device_number d c)).1 (inr (member c))))
              (λ ne. subst (λ (s : SetOf). IsIn s (device_number d k)) (sym (j.others k ne ∙ j.can.others k ne)) (member k)))
        ],
      );
      apart = λ d first second. one_set-apart (set_at a c) (set_at b c) (box_a.each c).proper (box_b.each c).proper j.can.here (device_number d c) (first c) (second c);
    }
  where
    here : IsSetAt has.0 (set_at joined has.0)
    here =
        let c : Coord = has.0 in
        let j = has.1 in record {
          proper = j.here.proper;
          kind = kind-alike c (set_at a c) (set_at joined c) j.here.mark (box_a.each c).kind;
          few = j.here.few;
          can = λ n is. elim ((j.here.numbers n).0 is) [ inl first ↦ (box_a.each c).can n first | inr second ↦ (box_b.each c).can n second ];
        }
