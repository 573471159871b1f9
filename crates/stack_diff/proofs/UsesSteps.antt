-- What becomes of the rows, where all ids were looked up.
use Rattle.std.proofs.Common.{◌≡◌, ◌≢◌, ◌⊎◌, ◌↔◌, inl, inr, ℕ, zero, suc, ◌≤◌, List, [], ◌∷◌, length, Option, Some, None, arith, sym, ap, ◌∙◌, subst}
use Rattle.std.specs.Prelude.{Contains}
use Rattle.config_box.specs.box_answers.NumberSet.{SetOf}
use Rattle.reference_resolver.specs.overlay_map.Layer.{LayerOf}
use Rattle.stack_diff.specs.declared.row_place.RowPlace.{RowPlace}
use Rattle.stack_diff.specs.declared.row_use.RowUse.{RowUse}
use Rattle.stack_diff.specs.declared.row_use.RowUse.TheVariants.{Unmapped, Unused, Overlaid, Loaded}
use Rattle.stack_diff.specs.RowPlaces.{StandsFor, row_places}
use Rattle.stack_diff.specs.Loading.{IsLoaded, without_overlays}
use Rattle.stack_diff.specs.RowUses.{IsAsked, IsUse, IsToldOf, AreUses}
use Rattle.stack_diff.specs.Raising.{level_told, level_at, KeepsReach, no_more, id_more, stands, bare, loaded, ids_more, IsBegun}
use Rattle.stack_diff.proofs.CellSteps.{level-of-told}
use Rattle.stack_diff.proofs.AskSteps.{there}
use Rattle.stack_diff.proofs.BareStack.{bare-stands}
use Rattle.stack_diff.proofs.RaisedRows.{loaded-stands, more-stands}

not-nil : {X : Type 0} (xs : List X) (x : X) → Contains xs x → xs ≢ []
not-nil xs x has none = let within = has.1 in let long = ap length none in absurd (omega (arith, within, long))

pub positive : (found : RowUse) (n : ℕ) → n ≡ level_told (Some found) → 1 ≤ n
positive Unmapped n e = let is : n ≡ 1 = e in omega (arith, is)
positive Unused n e = let is : n ≡ 2 = e in omega (arith, is)
positive Overlaid n e = let is : n ≡ 3 = e in omega (arith, is)
positive Loaded n e = let is : n ≡ 4 = e in omega (arith, is)

module _ (stack : List LayerOf) (sets : List SetOf) (ids : List ℕ) (complete : (id : ℕ) → row_places stack id ≢ [] → Contains ids id) where
  of-one : (some : List ℕ) (id : ℕ) (row : RowPlace) (level : ℕ) → Contains some id → id_more stack sets id row level → ids_more stack sets some row level
  of-one [] id row level has more = absurd (let within = has.1 in omega (arith, within))
  of-one (first ∷ some) id row level (zero, within, is) more = inl (subst (λ (i : ℕ). id_more stack sets i row level) (sym is) more)
  of-one (first ∷ some) id row level (suc k, within, is) more = inr (of-one some id row level (k, omega (arith, within), is) more)

  -- all ids for which a row stands were looked up
  of-all : (id : ℕ) (row : RowPlace) (level : ℕ) → StandsFor stack row id → id_more stack sets id row level → ids_more stack sets ids row level
  of-all id row level has more = of-one ids id row level (complete id (not-nil (row_places stack id) row has)) more

  some-one : (some : List ℕ) (row : RowPlace) (level : ℕ) → ids_more stack sets some row level → (id : ℕ) × id_more stack sets id row level
  some-one [] row level more = absurd more
  some-one (id ∷ some) row level (inl more) = (id, more)
  some-one (id ∷ some) row level (inr more) = some-one some row level more

  to-loaded : (id : ℕ) (row : RowPlace) → id_more stack sets id row 4 → IsLoaded stack sets row
  to-loaded id row (stands has le) = absurd (omega (arith, le))
  to-loaded id row (bare load le) = absurd (omega (arith, le))
  to-loaded id row (loaded load le) = (id, load)

  to-bare : (id : ℕ) (row : RowPlace) → id_more stack sets id row 3 → IsLoaded stack sets row ⊎ IsLoaded (without_overlays stack) sets row
  to-bare id row (stands has le) = absurd (omega (arith, le))
  to-bare id row (bare load le) = inr (id, load)
  to-bare id row (loaded load le) = inl (id, load)

  -- what a row reached is what becomes of it
  module _ (row : RowPlace) (n : ℕ) (more : (level : ℕ) → 2 ≤ level → (level ≤ n) ↔ ids_more stack sets ids row level) where
    is-loaded : 4 ≤ n → IsLoaded stack sets row
    is-loaded le = let one = some-one ids row 4 ((more 4 (omega arith)).0 le) in to-loaded one.0 row one.1

    loaded-is : IsLoaded stack sets row → 4 ≤ n
    loaded-is load = (more 4 (omega arith)).1 (of-all load.0 row 4 (loaded-stands stack sets load.0 row load.1) (loaded load.1 (omega arith)))

    bare-is : IsLoaded (without_overlays stack) sets row → 3 ≤ n
    bare-is load =
        (more 3 (omega arith)).1 (of-all load.0 row 3 (bare-stands stack load.0 row (loaded-stands (without_overlays stack) sets load.0 row load.1)) (bare load.1 (omega arith)))

    stands-is : (id : ℕ) → StandsFor stack row id → 2 ≤ n
    stands-is id has = (more 2 (omega arith)).1 (of-all id row 2 has (stands has (omega arith)))

    becomes : (becoming : RowUse) → level_told (Some becoming) ≡ n → IsUse stack sets row becoming
    becomes Unmapped is = λ id has. let e : 1 ≡ n = is in let le = stands-is id has in omega (arith, e, le)
    becomes Unused is =
        let e : 2 ≡ n = is in
        let one = some-one ids row 2 ((more 2 (omega arith)).0 (omega (arith, e))) in
        ((one.0, more-stands stack sets one.0 row 2 one.1), (λ load. let le = loaded-is load in omega (arith, e, le)), (λ load. let le = bare-is load in omega (arith, e, le)))
    becomes Overlaid is =
        let e : 3 ≡ n = is in
        let one = some-one ids row 3 ((more 3 (omega arith)).0 (omega (arith, e))) in (
          (λ load. let le = loaded-is load in omega (arith, e, le)),
          elim (to-bare one.0 row one.1) [
            | inl load ↦ absurd (let le = loaded-is load in omega (arith, e, le))
            | inr load ↦ load
          ],
        )
    becomes Loaded is = let e : 4 ≡ n = is in is-loaded (omega (arith, e))

  module _ (asked : Option (List ℕ)) (start end : List (List (Option RowUse))) (begun : IsBegun stack asked start) (keeps : KeepsReach start (ids_more stack sets ids) end no_more) where
    more-of : (row : RowPlace) → 1 ≤ level_at start row → level_at start row ≤ 1 → (level : ℕ) → 2 ≤ level → (level ≤ level_at end row) ↔ ids_more stack sets ids row level
    more-of row one low level two = (
      (λ le. elim ((keeps.reach row level).0 (inl le)) [ inl at ↦ absurd (omega (arith, at, low, two)) | inr more ↦ more.1 ]),
      (λ more. elim ((keeps.reach row level).1 (inr (one, more))) [ inl le ↦ le | inr nothing ↦ absurd nothing.1 ]),
    )

    one-at-end : (row : RowPlace) → 1 ≤ level_at start row → 1 ≤ level_at end row
    one-at-end row one = elim ((keeps.reach row 1).1 (inl one)) [ inl le ↦ le | inr nothing ↦ absurd nothing.1 ]

    one-at-start : (row : RowPlace) → 1 ≤ level_at end row → 1 ≤ level_at start row
    one-at-start row one = elim ((keeps.reach row 1).0 (inl one)) [ inl le ↦ le | inr more ↦ more.0 ]

    is-told : (row : RowPlace) (told : Option RowUse) → level_at end row ≡ level_told told → (1 ≤ level_at start row) ↔ IsAsked stack asked row → level_at start row ≤ 1 → IsToldOf stack sets asked row told
    is-told row None level asked_for low = λ ask. let one = one-at-end row (asked_for.1 ask) in let none : level_at end row ≡ 0 = level in omega (arith, one, none)
    is-told row (Some becoming) level asked_for low =
        let one = one-at-start row (positive becoming (level_at end row) level) in
        (asked_for.0 one, becomes row (level_at end row) (more-of row one low) becoming (sym level))

    pub are-uses : AreUses stack sets asked end
    are-uses = record {
      alongside = keeps.alongside ∙ begun.alongside;
      each = λ row told at.
          let before = there end start row told keeps.alongside at in
          is-told row told (level-of-told end row (Some told) at) (begun.asked_for row before.0 before.1) (begun.low row);
    }
