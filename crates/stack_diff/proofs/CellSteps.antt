-- What stands at rows, where it changes at one.
use Rattle.std.proofs.Common.{◌≡◌, ◌≢◌, ◌⊎◌, ◌↔◌, inl, inr, ℕ, zero, suc, ◌≤◌, ◌<◌, Bool, false, List, [], ◌∷◌, map, length, get_or, Option, Some, None, arith, refl, sym, ap, ◌∙◌, subst}
use Rattle.std.specs.Prelude.{slice_get, slice_set, option_and_then}
use Rattle.std.specs.Option.{option_map_or}
use Rattle.std.proofs.lemmas.List.{map-set}
use Rattle.std.proofs.lemmas.Bool.{cases_eq, cases_lt}
use Rattle.stack_diff.specs.declared.row_place.RowPlace.{RowPlace}
use Rattle.stack_diff.specs.declared.row_use.RowUse.{RowUse}
use Rattle.stack_diff.specs.RowUses.{told_at}
use Rattle.stack_diff.specs.Raising.{level_told, level_in, level_at, raised, Reaches, KeepsReach, no_more, one_more}

same-parts : (a b : RowPlace) → a.layer ≡ b.layer → a.place ≡ b.place → a ≡ b
same-parts a b layers places =
    let with_layer : ℕ → RowPlace = λ layer. record { layer = layer; place = a.place } in
    let with_place : ℕ → RowPlace = λ place. record { layer = b.layer; place = place } in
    ap with_layer layers ∙ ap with_place places

pub get-at : {X : Type 0} (xs : List X) (i : ℕ) (x : X) → i < length xs → x ≡ get_or xs i x → slice_get xs i ≡ Some x
get-at [] i x within is = absurd (omega (arith, within))
get-at (z ∷ xs) zero x within is = ap (λ y. Some y) (sym is)
get-at (z ∷ xs) (suc i) x within is = get-at xs i x (omega (arith, within)) is

get-set-here : {X : Type 0} (xs : List X) (i : ℕ) (x y : X) → slice_get xs i ≡ Some x → slice_get (slice_set xs i y) i ≡ Some y
get-set-here [] i x y e = absurd cc
get-set-here (z ∷ xs) zero x y e = refl
get-set-here (z ∷ xs) (suc i) x y e = get-set-here xs i x y e

get-set-other : {X : Type 0} (xs : List X) (i j : ℕ) (y : X) → j ≢ i → slice_get (slice_set xs i y) j ≡ slice_get xs j
get-set-other [] i j y other = refl
get-set-other (z ∷ xs) zero zero y other = absurd (other refl)
get-set-other (z ∷ xs) zero (suc j) y other = refl
get-set-other (z ∷ xs) (suc i) zero y other = refl
get-set-other (z ∷ xs) (suc i) (suc j) y other = get-set-other xs i j y (λ e. other (ap suc e))

set-same : {X : Type 0} (xs : List X) (i : ℕ) (x : X) → slice_get xs i ≡ Some x → slice_set xs i x ≡ xs
set-same [] i x e = refl
set-same (z ∷ xs) zero x e = let same : x ≡ z = cc in ap (λ y. y ∷ xs) same
set-same {X} (z ∷ xs) (suc i) x e = ap (λ (ys : List X). z ∷ ys) (set-same xs i x e)

module _ (old : List (List (Option RowUse))) (row : RowPlace) (layer new : List (Option RowUse)) (is : slice_get old row.layer ≡ Some layer) where
  told-there : told_at old row ≡ slice_get layer row.place
  told-there = ap (λ o. option_and_then (λ (cells : List (Option RowUse)). slice_get cells row.place) o) is

  pub lift-here : (asks : Bool) (to : ℕ) → ((told : Option RowUse) → slice_get layer row.place ≡ Some told → level_in new row.place ≡ raised asks (level_told told) to)
      → (told : Option RowUse) → told_at old row ≡ Some told → level_at (slice_set old row.layer new) row ≡ raised asks (level_told told) to
  lift-here asks to here told at =
      ap (λ o. option_map_or (λ (cells : List (Option RowUse)). level_in cells row.place) o 0) (get-set-here old row.layer layer new is)
      ∙ here told (sym told-there ∙ at)

  pub lift-other : ((place : ℕ) → place ≢ row.place → slice_get new place ≡ slice_get layer place) → (other : RowPlace) → other ≢ row → told_at (slice_set old row.layer new) other ≡ told_at old other
  lift-other others other apart = elim (cases_eq other.layer row.layer) [
    | inl same ↦ (
        let there = ap (λ i. slice_get (slice_set old row.layer new) i) same ∙ get-set-here old row.layer layer new is in
        let before = ap (λ i. slice_get old i) same ∙ is in
        ap (λ o. option_and_then (λ (cells : List (Option RowUse)). slice_get cells other.place) o) there
        ∙ others other.place (λ e. apart (same-parts other row same e))
        ∙ sym (ap (λ o. option_and_then (λ (cells : List (Option RowUse)). slice_get cells other.place) o) before))
    | inr differ ↦ ap (λ o. option_and_then (λ (cells : List (Option RowUse)). slice_get cells other.place) o) (get-set-other old row.layer other.layer new differ)
  ]

  pub lift-nowhere : (slice_get layer row.place ≡ None → new ≡ layer) → told_at old row ≡ None → slice_set old row.layer new ≡ old
  lift-nowhere nowhere at =
      ap (slice_set old row.layer) (nowhere (sym told-there ∙ at)) ∙ set-same old row.layer layer is

  pub lift-alongside : length new ≡ length layer → map length (slice_set old row.layer new) ≡ map length old
  lift-alongside count =
      map-set length old row.layer new ∙ ap (slice_set (map length old) row.layer) count
      ∙ sym (map-set length old row.layer layer) ∙ ap (map length) (set-same old row.layer layer is)

-- ---- a level

level-told : (cells : List (List (Option RowUse))) (row : RowPlace) → level_at cells row ≡ option_map_or level_told (told_at cells row) 0
level-told cells row = by (slice_get cells row.layer)
  where
    by : (o : Option (List (Option RowUse))) → option_map_or (λ (cells : List (Option RowUse)). level_in cells row.place) o 0 ≡ option_map_or level_told (option_and_then (λ (cells : List (Option RowUse)). slice_get cells row.place) o) 0
    by None = refl
    by (Some cells) = refl

pub level-of-told : (cells : List (List (Option RowUse))) (row : RowPlace) (o : Option (Option RowUse)) → told_at cells row ≡ o → level_at cells row ≡ option_map_or level_told o 0
level-of-told cells row o at = level-told cells row ∙ ap (λ (o : Option (Option RowUse)). option_map_or level_told o 0) at

pub same-told : (old new : List (List (Option RowUse))) (row : RowPlace) → told_at new row ≡ told_at old row → level_at new row ≡ level_at old row
same-told old new row same = level-of-told new row (told_at old row) same ∙ sym (level-told old row)

above : (level before to : ℕ) → (level ≤ raised false before to) ↔ ((level ≤ before) ⊎ ((1 ≤ before) × (level ≤ to)))
above level zero to = ((λ h. inl h), (λ h. elim h [ inl at ↦ at | inr more ↦ absurd (omega (arith, more.0)) ]))
above level (suc before) to = (
  (λ h. elim (cases_lt (suc before) level) [ inl gt ↦ inr (omega arith, omega (arith, h, gt)) | inr le ↦ inl le ]),
  (λ h. elim h [ inl at ↦ omega (arith, at) | inr more ↦ omega (arith, more.1) ]),
)

pub same-row : (a b : RowPlace) → (a ≡ b) ⊎ (a ≢ b)
same-row a b = elim (cases_eq a.layer b.layer) [
  | inl layers ↦ elim (cases_eq a.place b.place) [
    | inl places ↦ inl (same-parts a b layers places)
    | inr differ ↦ inr (λ e. differ (ap (λ (r : RowPlace). r.place) e))
  ]
  | inr differ ↦ inr (λ e. differ (ap (λ (r : RowPlace). r.layer) e))
]

-- a row is raised
pub raises-one : (old new : List (List (Option RowUse))) (row : RowPlace) (to : ℕ)
    → ((told : Option RowUse) → told_at old row ≡ Some told → level_at new row ≡ raised false (level_told told) to)
    → ((other : RowPlace) → other ≢ row → told_at new other ≡ told_at old other) → (told_at old row ≡ None → new ≡ old) → map length new ≡ map length old
    → KeepsReach old (one_more row to) new no_more
raises-one old new row to here others nowhere alongside = record {
  alongside = alongside;
  reach = λ other level. elim (same-row other row) [
    | inl same ↦ subst (λ (r : RowPlace). Reaches new no_more r level ↔ Reaches old (one_more row to) r level) (sym same) (at-row level (told_at old row) refl)
    | inr apart ↦ (
        let e = same-told old new other (others other apart) in (
          (λ h. elim h [ inl at ↦ inl (subst (λ n. level ≤ n) e at) | inr more ↦ absurd more.1 ]),
          (λ h. elim h [ inl at ↦ inl (subst (λ n. level ≤ n) (sym e) at) | inr more ↦ absurd (apart more.1.0) ]),
        ))
  ];
}
  where
    at-row : (level : ℕ) (o : Option (Option RowUse)) → told_at old row ≡ o → Reaches new no_more row level ↔ Reaches old (one_more row to) row level
    at-row level None at =
        let e = level-of-told old row None at in
        let same : level_at new row ≡ level_at old row = ap (λ cells. level_at cells row) (nowhere at) in (
          (λ h. elim h [ inl reached ↦ inl (subst (λ n. level ≤ n) same reached) | inr more ↦ absurd more.1 ]),
          (λ h. elim h [ inl reached ↦ inl (subst (λ n. level ≤ n) (sym same) reached) | inr more ↦ absurd (let none = more.0 in omega (arith, none, e)) ]),
        )
    at-row level (Some told) at =
        let e = level-of-told old row (Some told) at in
        let r = here told at in
        let parts = above level (level_told told) to in (
          (λ h. elim h [
            | inl reached ↦ elim (parts.0 (subst (λ n. level ≤ n) r reached)) [
              | inl before ↦ inl (subst (λ n. level ≤ n) (sym e) before)
              | inr more ↦ inr (subst (λ n. 1 ≤ n) (sym e) more.0, (refl, more.1))
            ]
            | inr more ↦ absurd more.1
          ]),
          (λ h. inl (subst (λ n. level ≤ n) (sym r) (parts.1 (elim h [
            | inl reached ↦ inl (subst (λ n. level ≤ n) e reached)
            | inr more ↦ inr (subst (λ n. 1 ≤ n) e more.0, more.1.1)
          ])))),
        )

-- ---- layers as the code has them

module _ {V : Type 0} (f : V → List (Option RowUse)) (layers : List V) (row : RowPlace) where
  get-map : (xs : List V) (i : ℕ) (layer : V) → slice_get xs i ≡ Some layer → slice_get (map f xs) i ≡ Some (f layer)
  get-map [] i layer at = absurd cc
  get-map (x ∷ xs) zero layer at = let e : x ≡ layer = cc in ap (λ y. Some (f y)) e
  get-map (x ∷ xs) (suc i) layer at = get-map xs i layer at

  module _ (layer new : V) (within : row.layer < length layers) (is : layer ≡ get_or layers row.layer layer) where
    found : slice_get (map f layers) row.layer ≡ Some (f layer)
    found = get-map layers row.layer layer (get-at layers row.layer layer within is)

    pub put-here : (asks : Bool) (to : ℕ) → ((told : Option RowUse) → slice_get (f layer) row.place ≡ Some told → level_in (f new) row.place ≡ raised asks (level_told told) to)
        → (told : Option RowUse) → told_at (map f layers) row ≡ Some told → level_at (map f (slice_set layers row.layer new)) row ≡ raised asks (level_told told) to
    put-here asks to here told at =
        ap (λ (cells : List (List (Option RowUse))). level_at cells row) (map-set f layers row.layer new)
        ∙ lift-here (map f layers) row (f layer) (f new) found asks to here told at

    pub put-other : ((place : ℕ) → place ≢ row.place → slice_get (f new) place ≡ slice_get (f layer) place) → (other : RowPlace) → other ≢ row
        → told_at (map f (slice_set layers row.layer new)) other ≡ told_at (map f layers) other
    put-other others other apart =
        ap (λ (cells : List (List (Option RowUse))). told_at cells other) (map-set f layers row.layer new)
        ∙ lift-other (map f layers) row (f layer) (f new) found others other apart

    pub put-nowhere : (slice_get (f layer) row.place ≡ None → f new ≡ f layer) → told_at (map f layers) row ≡ None → map f (slice_set layers row.layer new) ≡ map f layers
    put-nowhere nowhere at = map-set f layers row.layer new ∙ lift-nowhere (map f layers) row (f layer) (f new) found nowhere at

    pub put-alongside : length (f new) ≡ length (f layer) → map length (map f (slice_set layers row.layer new)) ≡ map length (map f layers)
    put-alongside count = ap (map length) (map-set f layers row.layer new) ∙ lift-alongside (map f layers) row (f layer) (f new) found count

  pub no-layer : (row.layer < length layers → ⊥) → (told : Option RowUse) → told_at (map f layers) row ≡ Some told → ⊥
  no-layer beyond told at = by layers row.layer beyond at
    where
      by : (xs : List V) (i : ℕ) → (i < length xs → ⊥) → option_and_then (λ (cells : List (Option RowUse)). slice_get cells row.place) (slice_get (map f xs) i) ≡ Some told → ⊥
      by [] i out at = cc
      by (x ∷ xs) zero out at = out (omega arith)
      by (x ∷ xs) (suc i) out at = by xs i (λ within. out (omega (arith, within))) at
