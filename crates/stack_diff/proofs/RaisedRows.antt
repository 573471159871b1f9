-- Rows that are raised one after the other, and what is raised for an id.
use Rattle.std.proofs.Common.{◌≡◌, inl, inr, ℕ, zero, suc, ◌≤◌, Bool, true, false, List, [], ◌∷◌, ◌++◌, length, map, Option, Some, None, arith, refl, sym, ap, ◌∙◌, subst}
use Rattle.std.specs.Prelude.{slice_get, option_and_then, Contains, IfSome, nat_le, ◌&&◌}
use Rattle.std.specs.List.{list_any}
use Rattle.std.proofs.lemmas.List.Elements.{Contains-push, Contains-push_cases, Contains-append_left, Contains-append_right}
use Rattle.std.proofs.lemmas.Bool.{le-leb, and_cases, cases_lt}
use Rattle.std.proofs.lemmas.List.Folds.{list_any_at}
use Rattle.config_box.specs.box_answers.NumberSet.{SetOf}
use Rattle.reference_resolver.specs.overlay_map.Layer.{LayerOf}
use Rattle.reference_resolver.specs.overlay_map.Candidates.{CandOf, cand_of, candidates_of}
use Rattle.reference_resolver.specs.Takers.{picked_at}
use Rattle.stack_diff.specs.declared.row_place.RowPlace.{RowPlace}
use Rattle.stack_diff.specs.declared.row_use.RowUse.{RowUse}
use Rattle.stack_diff.specs.declared.look_up.LookUp.{LookUp}
use Rattle.stack_diff.specs.RowPlaces.{StandsFor, row_places}
use Rattle.stack_diff.specs.Loading.{IsLoadedBy, loaded_among, loaded_row, without_overlays}
use Rattle.stack_diff.specs.LayersSeen.{IsLookUp, loads_of}
use Rattle.stack_diff.specs.Raising.{level_at, is_asked_at, is_open_at, KeepsReach, no_more, one_more, rows_more, bare_more, loaded_more, id_more, stands, bare, loaded, ids_more}
use Rattle.stack_diff.proofs.ReachSteps.{beside, keeps-then, keeps-told, keeps-both, keeps-first, keeps-reached, asked-before}
use Rattle.stack_diff.proofs.BareStack.{bare-stands, same-look-up, is-of-overlay, true-not-false}

-- ---- some rows

pub no-row-more : (cells : List (List (Option RowUse))) (rows : List RowPlace) → rows ≡ [] → KeepsReach cells (rows_more rows) cells no_more
no-row-more cells rows none = keeps-told cells (rows_more rows) no_more (λ row level. (
  (λ more. let within = more.0.1 in omega (arith, within, ap length none)),
  (λ nothing. absurd nothing),
))

pub one-row-more : (old cells new : List (List (Option RowUse))) (rows : List RowPlace) (row : RowPlace) → KeepsReach old (rows_more rows) cells no_more → KeepsReach cells (one_more row 2) new no_more
    → KeepsReach old (rows_more (rows ++ row ∷ [])) new no_more
one-row-more old cells new rows row before step =
    keeps-then old old new (rows_more (rows ++ row ∷ [])) (beside (rows_more rows) (one_more row 2)) no_more
    (keeps-told old (rows_more (rows ++ row ∷ [])) (beside (rows_more rows) (one_more row 2)) (λ other level. (
      (λ more. elim (Contains-push_cases rows row other more.0) [ inl has ↦ inl (has, more.1) | inr e ↦ inr (sym e, more.1) ]),
      (λ more. elim more [
        | inl has ↦ (Contains-append_left rows (row ∷ []) other has.0, has.1)
        | inr one ↦ (subst (Contains (rows ++ row ∷ [])) (sym one.0) (Contains-push rows row), one.1)
      ]),
    )))
    (keeps-both old cells new (rows_more rows) (one_more row 2) before step)

contains-get : {X : Type 0} (xs : List X) (k : ℕ) (x : X) → slice_get xs k ≡ Some x → Contains xs x
contains-get [] k x at = absurd cc
contains-get (z ∷ xs) zero x at = (0, omega arith, (let e : z ≡ x = cc in e))
contains-get (z ∷ xs) (suc k) x at = Contains-append_right (z ∷ []) xs x (contains-get xs k x at)

-- what is loaded for an id stands for it
pub loaded-stands : (stack : List LayerOf) (sets : List SetOf) (id : ℕ) (row : RowPlace) → IsLoadedBy (loaded_row stack id) row sets → StandsFor stack row id
unfolding loaded_row
loaded-stands stack sets id row load = by (picked_at (candidates_of stack id) load.0) load.2
  where
    by : (o : Option ℕ) → option_and_then (slice_get (row_places stack id)) o ≡ Some row → StandsFor stack row id
    by None at = absurd cc
    by (Some k) at = contains-get (row_places stack id) k row at

-- what is raised for an id stands for it
pub more-stands : (stack : List LayerOf) (sets : List SetOf) (id : ℕ) (row : RowPlace) (level : ℕ) → id_more stack sets id row level → StandsFor stack row id
more-stands stack sets id row level (stands has le) = has
more-stands stack sets id row level (bare load le) = bare-stands stack id row (loaded-stands (without_overlays stack) sets id row load)
more-stands stack sets id row level (loaded load le) = loaded-stands stack sets id row load

pub none-of : (p : RowPlace → Bool) (rows : List RowPlace) (row : RowPlace) → list_any p rows ≡ false → Contains rows row → p row ≡ false
none-of p rows row none has = by (p row) refl
  where
    by : (b : Bool) → p row ≡ b → b ≡ false
    by false e = refl
    by true e = sym (list_any_at p rows has.0 row has.1 (ap p has.2 ∙ e)) ∙ none

pub not-asked : (level : ℕ) → nat_le 1 level ≡ false → 1 ≤ level → ⊥
not-asked level e one = true-not-false (sym (le-leb 1 level one) ∙ e)

not-open : (level : ℕ) → (nat_le 1 level && nat_le level 3) ≡ false → 1 ≤ level → 4 ≤ level
not-open level e one = elim (and_cases (nat_le 1 level) (nat_le level 3) e) [
  | inl none ↦ absurd (not-asked level none one)
  | inr more ↦ elim (cases_lt 3 level) [ inl lt ↦ omega (arith, lt) | inr le ↦ absurd (true-not-false (sym (le-leb level 3 le) ∙ more)) ]
]

-- no row that stands for an id is asked for
pub none-asked : (stack : List LayerOf) (sets : List SetOf) (id : ℕ) (cells : List (List (Option RowUse))) (rows : List RowPlace) → rows ≡ row_places stack id → list_any (is_asked_at cells) rows ≡ false
    → KeepsReach cells (id_more stack sets id) cells no_more
none-asked stack sets id cells rows are none =
    keeps-reached cells (id_more stack sets id) (λ row level one more.
    let has = subst (λ (rs : List RowPlace). Contains rs row) (sym are) (more-stands stack sets id row level more) in
    absurd (not-asked (level_at cells row) (none-of (is_asked_at cells) rows row none has) one))

-- each row of the bases is loaded, or not asked for
pub none-open : (stack : List LayerOf) (sets : List SetOf) (id : ℕ) (cells : List (List (Option RowUse))) (rows : List RowPlace) → rows ≡ row_places (without_overlays stack) id → list_any (is_open_at cells) rows ≡ false
    → KeepsReach cells (bare_more stack sets id) cells no_more
none-open stack sets id cells rows are none =
    keeps-reached cells (bare_more stack sets id) (λ row level one more.
    let has = subst (λ (rs : List RowPlace). Contains rs row) (sym are) (loaded-stands (without_overlays stack) sets id row more.0) in
    let four = not-open (level_at cells row) (none-of (is_open_at cells) rows row none has) one in
    let low = more.1 in
    omega (arith, four, low))

-- ---- a look-up

loads-same : (stack : List LayerOf) (id : ℕ) (look_up : LookUp) → IsLookUp stack id look_up → (d : List ℕ) → loads_of look_up d ≡ loaded_row stack id d
unfolding loaded_row
loads-same stack id look_up is d =
    ap (λ (cs : List CandOf). loaded_among cs look_up.rows.items d) is.candidates ∙ ap (λ (rows : List RowPlace). loaded_among (candidates_of stack id) rows d) is.rows

to-load : (loads other : List ℕ → Option RowPlace) → ((d : List ℕ) → loads d ≡ other d) → (row : RowPlace) (sets : List SetOf) → IsLoadedBy loads row sets → IsLoadedBy other row sets
to-load loads other same row sets load = (load.0, load.1, sym (same load.0) ∙ load.2)

-- the rows of bases, where overlays do nothing
pub bare-raised : (stack : List LayerOf) (sets : List SetOf) (id : ℕ) (look_up : LookUp) (old new : List (List (Option RowUse))) → IsLookUp (without_overlays stack) id look_up
    → KeepsReach old (loaded_more (loads_of look_up) 3 (sets ∷ [])) new no_more → KeepsReach old (bare_more stack sets id) new no_more
bare-raised stack sets id look_up old new is step =
    let same = loads-same (without_overlays stack) id look_up is in
    keeps-then old old new (bare_more stack sets id) (loaded_more (loads_of look_up) 3 (sets ∷ [])) no_more
    (keeps-told old _ _ (λ row level. (
      (λ more. (inl (to-load _ _ (λ d. sym (same d)) row sets more.0), more.1)),
      (λ more. elim more.0 [ inl load ↦ (to-load _ _ same row sets load, more.1) | inr nothing ↦ absurd nothing ]),
    ))) step

-- all that an id raises
pub id-raised : (stack : List LayerOf) (sets : List SetOf) (id : ℕ) (look_up : LookUp) (old rows now new : List (List (Option RowUse))) → IsLookUp stack id look_up
    → KeepsReach old (rows_more look_up.rows.items) rows no_more → KeepsReach rows (loaded_more (loads_of look_up) 4 (sets ∷ [])) now no_more → KeepsReach now (bare_more stack sets id) new no_more
    → KeepsReach old (id_more stack sets id) new no_more
id-raised stack sets id look_up old rows now new is first second third =
    let same = loads-same stack id look_up is in
    let R = rows_more look_up.rows.items in
    let L = loaded_more (loads_of look_up) 4 (sets ∷ []) in
    let B = bare_more stack sets id in
    keeps-then old old new (id_more stack sets id) (beside (beside R L) B) no_more
    (keeps-told old (id_more stack sets id) (beside (beside R L) B) (λ row level. (to row level, from row level)))
    (keeps-both old now new (beside R L) B (keeps-both old rows now R L first second) third)
  where
    to : (row : RowPlace) (level : ℕ) → id_more stack sets id row level → beside (beside (rows_more look_up.rows.items) (loaded_more (loads_of look_up) 4 (sets ∷ []))) (bare_more stack sets id) row level
    to row level (stands has le) = inl (inl (subst (λ (rs : List RowPlace). Contains rs row) (sym is.rows) has, le))
    to row level (bare load le) = inr (load, le)
    to row level (loaded load le) = inl (inr (inl (to-load _ _ (λ d. sym (loads-same stack id look_up is d)) row sets load), le))

    from : (row : RowPlace) (level : ℕ) → beside (beside (rows_more look_up.rows.items) (loaded_more (loads_of look_up) 4 (sets ∷ []))) (bare_more stack sets id) row level → id_more stack sets id row level
    from row level (inl (inl has)) = stands (subst (λ (rs : List RowPlace). Contains rs row) is.rows has.0) has.1
    from row level (inl (inr (inl load, le))) = loaded (to-load _ _ (loads-same stack id look_up is) row sets load) le
    from row level (inl (inr (inr nothing, le))) = absurd nothing
    from row level (inr more) = bare more.0 more.1

-- where no candidate is of an overlay, the overlays change nothing
pub bare-reached : (stack : List LayerOf) (sets : List SetOf) (id : ℕ) (look_up : LookUp) (old new : List (List (Option RowUse))) → IsLookUp stack id look_up → list_any is-of-overlay (map cand_of look_up.candidates.items) ≡ false
    → KeepsReach old (loaded_more (loads_of look_up) 4 (sets ∷ [])) new no_more → KeepsReach new (bare_more stack sets id) new no_more
bare-reached stack sets id look_up old new is plain step =
    let same = same-look-up stack id (ap (list_any is-of-overlay) (sym is.candidates) ∙ plain) in
    keeps-reached new (bare_more stack sets id) (λ row level one more.
    let load = to-load _ (loads_of look_up) (λ d. same d ∙ sym (loads-same stack id look_up is d)) row sets more.0 in
    let low = more.1 in
    elim ((step.reach row 4).1 (inr (asked-before old new (loaded_more (loads_of look_up) 4 (sets ∷ [])) no_more step row one, (inl load, omega arith)))) [
      | inl four ↦ omega (arith, four, low)
      | inr nothing ↦ absurd nothing.1
    ])

-- ---- ids one after the other

-- what holds of what stands in a `Some`
pub some-of : {X : Type 0} (o : Option X) (x : X) (P : X → Type 0) → o ≡ Some x → IfSome o P → P x
some-of o x P is given = subst (λ found. IfSome found P) is given

pub no-id : (stack : List LayerOf) (sets : List SetOf) (cells : List (List (Option RowUse))) (ids : List ℕ) → ids ≡ [] → KeepsReach cells (ids_more stack sets ids) cells no_more
no-id stack sets cells ids none = keeps-told cells (ids_more stack sets ids) no_more (λ row level. (
  (λ more. subst (λ (some : List ℕ). ids_more stack sets some row level) none more),
  (λ nothing. absurd nothing),
))

pub next-id : (stack : List LayerOf) (sets : List SetOf) (old now new : List (List (Option RowUse))) (all left rest : List ℕ) (id : ℕ) → left ≡ id ∷ rest → KeepsReach old (ids_more stack sets all) now (ids_more stack sets left)
    → KeepsReach now (id_more stack sets id) new no_more → KeepsReach old (ids_more stack sets all) new (ids_more stack sets rest)
next-id stack sets old now new all left rest id split before step =
    keeps-then old now new (ids_more stack sets all) (ids_more stack sets left) (ids_more stack sets rest) before
    (keeps-then now now new (ids_more stack sets left) (beside (id_more stack sets id) (ids_more stack sets rest)) (ids_more stack sets rest)
    (keeps-told now (ids_more stack sets left) (beside (id_more stack sets id) (ids_more stack sets rest)) (λ row level. (
      (λ more. subst (λ (some : List ℕ). ids_more stack sets some row level) split more),
      (λ more. subst (λ (some : List ℕ). ids_more stack sets some row level) (sym split) more),
    )))
    (keeps-first now new (id_more stack sets id) (ids_more stack sets rest) step))
