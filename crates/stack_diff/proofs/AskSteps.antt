-- What is asked for, before anything is looked up.
use Rattle.std.proofs.Common.{◌≡◌, ◌≢◌, inl, inr, ℕ, zero, suc, ◌+◌, ◌≤◌, ◌<◌, true, List, [], ◌∷◌, ◌++◌, map, length, take, get_or, replicate, Option, Some, None, arith, refl, sym, ap, ◌∙◌, subst}
use Rattle.std.specs.Prelude.{slice_get, option_and_then, Contains}
use Rattle.std.proofs.lemmas.List.{take_more, map-append}
use Rattle.std.proofs.lemmas.List.Elements.{Contains-push, Contains-push_cases, Contains-append_left}
use Rattle.reference_resolver.specs.res_value.declared.res_id.ResId.{ResId}
use Rattle.reference_resolver.specs.overlay_map.Table.{rows_of}
use Rattle.reference_resolver.specs.overlay_map.Layer.{LayerOf}
use Rattle.stack_diff.specs.declared.row_place.RowPlace.{RowPlace}
use Rattle.stack_diff.specs.declared.row_use.RowUse.{RowUse}
use Rattle.stack_diff.specs.declared.row_use.RowUse.TheVariants.{Unmapped}
use Rattle.stack_diff.specs.RowPlaces.{StandsFor, row_places}
use Rattle.stack_diff.specs.RowUses.{told_at}
use Rattle.stack_diff.specs.Raising.{level_told, level_at, raised, all_told, AsksFor, IsBegun}
use Rattle.stack_diff.specs.declared.look_up.Among.TheVariants.{AllLayers}
use Rattle.stack_diff.specs.LayersSeen.{stack_among}
use Rattle.stack_diff.proofs.BareStack.{all-layers}
use Rattle.stack_diff.proofs.CellSteps.{level-of-told, same-told, same-row}

-- ---- lists of one length

there-in : {X : Type 0} (xs ys : List X) (i : ℕ) (x : X) → length xs ≡ length ys → slice_get xs i ≡ Some x → (y : X) × (slice_get ys i ≡ Some y)
there-in [] ys i x same at = absurd cc
there-in (z ∷ xs) [] i x same at = absurd (omega (arith, same))
there-in (z ∷ xs) (y ∷ ys) zero x same at = (y, refl)
there-in (z ∷ xs) (y ∷ ys) (suc i) x same at = there-in xs ys i x (omega (arith, same)) at

there-at : (a b : List (List (Option RowUse))) (i place : ℕ) (told : Option RowUse) → map length a ≡ map length b
    → option_and_then (λ (layer : List (Option RowUse)). slice_get layer place) (slice_get a i) ≡ Some told
    → (other : Option RowUse) × (option_and_then (λ (layer : List (Option RowUse)). slice_get layer place) (slice_get b i) ≡ Some other)
there-at [] b i place told same at = absurd cc
there-at (x ∷ a) [] i place told same at = absurd cc
there-at (x ∷ a) (y ∷ b) zero place told same at = there-in x y place told (let e = same in cc) at
there-at (x ∷ a) (y ∷ b) (suc i) place told same at = there-at a b i place told (let e = same in cc) at

-- where one has a row, the other has it
pub there : (a b : List (List (Option RowUse))) (row : RowPlace) (told : Option RowUse) → map length a ≡ map length b → told_at a row ≡ Some told → (other : Option RowUse) × (told_at b row ≡ Some other)
there a b row told same at = there-at a b row.layer row.place told same at

-- ---- some rows are asked for

pub asks-none : (cells : List (List (Option RowUse))) (rows : List RowPlace) → rows ≡ [] → AsksFor rows cells cells
asks-none cells rows none = record {
  alongside = refl;
  asked_for = λ row told at.
      let e = level-of-told cells row (Some told) at in (
        (λ h. inl (subst (λ n. 1 ≤ n) (sym e) h)),
        (λ h. elim h [ inl level ↦ subst (λ n. 1 ≤ n) e level | inr has ↦ absurd (no-row row (subst (λ (rs : List RowPlace). Contains rs row) none has)) ]),
      );
  low = λ row low. low;
}
  where
    no-row : (row : RowPlace) → Contains [] row → ⊥
    no-row row has = omega (arith, has.1)

above-zero : (told : ℕ) → (1 ≤ raised true told 1) × (told ≤ 1 → raised true told 1 ≤ 1)
above-zero zero = (omega arith, (λ low. omega arith))
above-zero (suc told) = (omega arith, (λ low. omega (arith, low)))

-- one more
pub asks-more : (old cells new : List (List (Option RowUse))) (rows : List RowPlace) (row : RowPlace) → AsksFor rows old cells
    → ((told : Option RowUse) → told_at cells row ≡ Some told → level_at new row ≡ raised true (level_told told) 1)
    → ((other : RowPlace) → other ≢ row → told_at new other ≡ told_at cells other) → (told_at cells row ≡ None → new ≡ cells) → map length new ≡ map length cells
    → AsksFor (rows ++ row ∷ []) old new
asks-more old cells new rows row asks here others nowhere alongside = record {
  alongside = alongside ∙ asks.alongside;
  asked_for = λ other told at. elim (same-row other row) [
    | inl same ↦ (
        let before = there new cells other told alongside at in
        let at_row = subst (λ (r : RowPlace). told_at cells r ≡ Some before.0) same before.1 in
        let e = here before.0 at_row in
        let level = level-of-told new other (Some told) at in
        let now : level_at new other ≡ raised true (level_told before.0) 1 = ap (level_at new) same ∙ e in (
          (λ h. inr (subst (Contains (rows ++ row ∷ [])) (sym same) (Contains-push rows row))),
          (λ h. subst (λ n. 1 ≤ n) (sym now ∙ level) (above-zero (level_told before.0)).0),
        ))
    | inr apart ↦ (
        let h = asks.asked_for other told (sym (others other apart) ∙ at) in (
          (λ asked. elim (h.0 asked) [ inl level ↦ inl level | inr has ↦ inr (Contains-append_left rows (row ∷ []) other has) ]),
          (λ asked. h.1 (elim asked [
            | inl level ↦ inl level
            | inr has ↦ elim (Contains-push_cases rows row other has) [ inl one ↦ inr one | inr e ↦ absurd (apart (sym e)) ]
          ])),
        ))
  ];
  low = λ other low. elim (same-row other row) [
    | inl same ↦ subst (λ (r : RowPlace). level_at new r ≤ 1) (sym same) (at-row (subst (λ (r : RowPlace). level_at cells r ≤ 1) same (asks.low other low)) (told_at cells row) refl)
    | inr apart ↦ subst (λ n. n ≤ 1) (sym (same-told cells new other (others other apart))) (asks.low other low)
  ];
}
  where
    at-row : level_at cells row ≤ 1 → (o : Option (Option RowUse)) → told_at cells row ≡ o → level_at new row ≤ 1
    at-row low None at = subst (λ (cs : List (List (Option RowUse))). level_at cs row ≤ 1) (sym (nowhere at)) low
    at-row low (Some told) at = subst (λ n. n ≤ 1) (sym (here told at)) ((above-zero (level_told told)).1 (subst (λ n. n ≤ 1) (level-of-told cells row (Some told) at) low))

-- ---- the rows of some ids

pub asked-ids : (stack : List LayerOf) (ids : List ℕ) (id : ℕ) (rows : List RowPlace) (old new : List (List (Option RowUse))) → IsBegun stack (Some ids) old → rows ≡ row_places stack id → AsksFor rows old new
    → IsBegun stack (Some (ids ++ id ∷ [])) new
asked-ids stack ids id rows old new begun are asks = record {
  alongside = asks.alongside ∙ begun.alongside;
  asked_for = λ row told at.
      let before = there new old row told asks.alongside at in
      let h = asks.asked_for row told at in
      let was = begun.asked_for row before.0 before.1 in
      let level = level-of-told new row (Some told) at in (
        (λ asked. elim (h.0 (subst (λ n. 1 ≤ n) level asked)) [
          | inl low ↦ (let one = was.0 low in (one.0, Contains-append_left ids (id ∷ []) one.0 one.1, one.2))
          | inr has ↦ (id, Contains-push ids id, subst (λ (rs : List RowPlace). Contains rs row) are has)
        ]),
        (λ asked. subst (λ n. 1 ≤ n) (sym level) (h.1 (elim (Contains-push_cases ids id asked.0 asked.1) [
          | inl one ↦ inl (was.1 (asked.0, one, asked.2))
          | inr e ↦ inr (subst (λ (rs : List RowPlace). Contains rs row) (sym are) (subst (StandsFor stack row) (sym e) asked.2))
        ]))),
      );
  low = λ row. asks.low row (begun.low row);
}

-- ---- all rows are told the same

told-in : (told : Option RowUse) (n place : ℕ) (found : Option RowUse) → slice_get (replicate n told) place ≡ Some found → found ≡ told
told-in told zero place found at = absurd cc
told-in told (suc n) zero found at = cc
told-in told (suc n) (suc place) found at = told-in told n place found at

told-all : (told : Option RowUse) (layers : List LayerOf) (i place : ℕ) (found : Option RowUse)
    → option_and_then (λ (layer : List (Option RowUse)). slice_get layer place) (slice_get (all_told layers told) i) ≡ Some found → found ≡ told
told-all told [] i place found at = absurd cc
told-all told (layer ∷ layers) zero place found at = told-in told (length (rows_of layer.table)) place found at
told-all told (layer ∷ layers) (suc i) place found at = told-all told layers i place found at

length-replicate : (n : ℕ) (told : Option RowUse) → length (replicate n told) ≡ n
length-replicate zero told = refl
length-replicate (suc n) told = ap suc (length-replicate n told)

alongside-all : (told : Option RowUse) (layers : List LayerOf) → map length (all_told layers told) ≡ map (λ (layer : LayerOf). length (rows_of layer.table)) layers
alongside-all told [] = refl
alongside-all told (layer ∷ layers) = let first = length-replicate (length (rows_of layer.table)) told in let rest = alongside-all told layers in cc

level-all : (stack : List LayerOf) (told : Option RowUse) (cells : List (List (Option RowUse))) → cells ≡ all_told stack told → level_told told ≤ 1 → (row : RowPlace) → level_at cells row ≤ 1
level-all stack told cells are low row = by (told_at cells row) refl
  where
    by : (o : Option (Option RowUse)) → told_at cells row ≡ o → level_at cells row ≤ 1
    by None at = subst (λ n. n ≤ 1) (sym (level-of-told cells row None at)) (omega arith)
    by (Some found) at =
        let e = told-all told stack row.layer row.place found (ap (λ (cs : List (List (Option RowUse))). told_at cs row) (sym are) ∙ at) in
        subst (λ n. n ≤ 1) (sym (level-of-told cells row (Some found) at ∙ ap level_told e)) low

pub begun-all : (stack : List LayerOf) (cells : List (List (Option RowUse))) → cells ≡ all_told stack (Some Unmapped) → IsBegun stack None cells
begun-all stack cells are = record {
  alongside = ap (map length) are ∙ alongside-all (Some Unmapped) stack;
  asked_for = λ row told at.
      let e = told-all (Some Unmapped) stack row.layer row.place told (ap (λ (cs : List (List (Option RowUse))). told_at cs row) (sym are) ∙ at) in
      let level : level_at cells row ≡ 1 = level-of-told cells row (Some told) at ∙ ap level_told e in
      ((λ _. tt), (λ _. omega (arith, level)));
  low = level-all stack (Some Unmapped) cells are (omega arith);
}

pub begun-none : (stack : List LayerOf) (cells : List (List (Option RowUse))) → cells ≡ all_told stack None → IsBegun stack (Some []) cells
begun-none stack cells are = record {
  alongside = ap (map length) are ∙ alongside-all None stack;
  asked_for = λ row told at.
      let e = told-all None stack row.layer row.place told (ap (λ (cs : List (List (Option RowUse))). told_at cs row) (sym are) ∙ at) in
      let level : level_at cells row ≡ 0 = level-of-told cells row (Some told) at ∙ ap level_told e in
      ((λ h. absurd (omega (arith, level, h))), (λ asked. absurd (let within = asked.1.1 in omega (arith, within))));
  low = level-all stack None cells are (omega arith);
}

-- the rows of one id more
pub asked-more : (stack : List LayerOf) (ids : List ResId) (k : ℕ) (d : ResId) (rows found : List RowPlace) (old new : List (List (Option RowUse))) → k < length ids
    → IsBegun stack (Some (map (λ (id : ResId). id.0) (take k ids))) old → rows ≡ found → found ≡ row_places (stack_among AllLayers stack) (get_or ids k d).0 → AsksFor rows old new
    → IsBegun stack (Some (map (λ (id : ResId). id.0) (take (k + 1) ids))) new
asked-more stack ids k d rows found old new within begun same are asks =
    subst (λ (some : List ℕ). IsBegun stack (Some some) new) (sym (ap (map (λ (id : ResId). id.0)) (take_more ids k d within) ∙ map-append (λ (id : ResId). id.0) (take k ids) (get_or ids k d ∷ [])))
    (asked-ids stack (map (λ (id : ResId). id.0) (take k ids)) (get_or ids k d).0 rows old new begun
    (same ∙ are ∙ ap (λ (layers : List LayerOf). row_places layers (get_or ids k d).0) (all-layers stack)) asks)

-- of the same stack
pub begun-over : (a b : List LayerOf) (asked : Option (List ℕ)) (cells : List (List (Option RowUse))) → a ≡ b → IsBegun a asked cells → IsBegun b asked cells
begun-over a b asked cells same begun = subst (λ (layers : List LayerOf). IsBegun layers asked cells) same begun
