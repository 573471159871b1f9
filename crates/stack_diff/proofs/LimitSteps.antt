-- What ids take of a limit, one after the other.
use Rattle.std.proofs.Common.{◌≡◌, ◌≢◌, inl, inr, ℕ, ◌+◌, ◌≤◌, true, false, List, [], ◌∷◌, length, Option, Some, None, arith, refl, sym, ap, subst}
use Rattle.std.specs.Prelude.{Contains}
use Rattle.std.specs.List.{list_any}
use Rattle.std.specs.List.Sorted.{IsStrictlySortedBy}
use Rattle.std.specs.Ordering.{nat_cmp}
use Rattle.std.proofs.lemmas.List.Folds.{Any-from_list_any}
use Rattle.std.proofs.lemmas.Bool.{leb-true}
use Rattle.config_box.specs.box_answers.NumberSet.{SetOf}
use Rattle.reference_resolver.specs.overlay_map.Layer.{LayerOf}
use Rattle.reference_resolver.specs.Trace.{Trace}
use Rattle.cert_maker.specs.cert_checker.box_trace.TraceAmong.{trace_among}
use Rattle.cert_maker.specs.cert_tree.Certificate.{NodeOf}
use Rattle.cert_maker.specs.Needed.{IsNeeded}
use Rattle.stack_diff.specs.declared.row_place.RowPlace.{RowPlace}
use Rattle.stack_diff.specs.declared.row_use.RowUse.{RowUse}
use Rattle.stack_diff.specs.declared.look_up.LookUp.{LookUp}
use Rattle.stack_diff.specs.RowPlaces.{StandsFor, row_places}
use Rattle.stack_diff.specs.RowUses.{told_at, IsAsked}
use Rattle.stack_diff.specs.Loading.{without_overlays}
use Rattle.stack_diff.specs.LayersSeen.{IsLookUp}
use Rattle.stack_diff.specs.LookUpBoxes.{trace_of_look_up}
use Rattle.stack_diff.specs.Parting.{IsParting, IsParted, trace_of, Counts, HaveTrees, NothingTold, IsWithin}
use Rattle.stack_diff.specs.Raising.{level_at, is_asked_at, KeepsReach, IsBegun}
use Rattle.stack_diff.specs.UsesLimit.{Leaves, BareParted, BareNeeded, AsksAt, NoneAsked, IdLeaves, IdsLeave}
use Rattle.stack_diff.proofs.CellSteps.{level-of-told}
use Rattle.stack_diff.proofs.PartingTree.{parting-needed}
use Rattle.stack_diff.proofs.ReachSteps.{asked-before, asked-after}
use Rattle.stack_diff.proofs.RaisedRows.{none-of, not-asked}
use Rattle.stack_diff.proofs.UsesSteps.{positive}

-- ---- whether something is asked for

pub nothing-asked : (stack : List LayerOf) (id : ℕ) (cells : List (List (Option RowUse))) (rows : List RowPlace) → rows ≡ row_places stack id → list_any (is_asked_at cells) rows ≡ false → NoneAsked stack cells id
nothing-asked stack id cells rows are none = λ row has one.
    not-asked (level_at cells row) (none-of (is_asked_at cells) rows row none (subst (λ (rs : List RowPlace). Contains rs row) (sym are) has)) one

abbrev pub SomeAsked : List LayerOf → (RowPlace → Type 0) → ℕ → Type 0
SomeAsked stack asks id = (row : RowPlace) × StandsFor stack row id × asks row

pub some-asked : (stack : List LayerOf) (id : ℕ) (cells : List (List (Option RowUse))) (rows : List RowPlace) → rows ≡ row_places stack id → list_any (is_asked_at cells) rows ≡ true → SomeAsked stack (AsksAt cells) id
some-asked stack id cells rows are some =
    let found = Any-from_list_any (is_asked_at cells) rows some in
    (found.1, subst (λ (rs : List RowPlace). Contains rs found.1) are (found.0, found.2, found.3), leb-true 1 (level_at cells found.1) found.4)

-- ---- one id

module _ (stack : List LayerOf) (sets : List SetOf) (id : ℕ) where
  trace-same : (layers : List LayerOf) (look_up : LookUp) → IsLookUp layers id look_up → trace_of_look_up look_up ≡ trace_of layers id
  trace-same layers look_up is = ap trace_among is.candidates

  pub look-up-parted : (layers : List LayerOf) (look_up : LookUp) (most : ℕ) (found : Option ℕ) → IsLookUp layers id look_up → IsParted (trace_of_look_up look_up) sets most found → IsParted (trace_of layers id) sets most found
  look-up-parted layers look_up most found is parted = subst (λ (trace : List ℕ → Trace). IsParted trace sets most found) (trace-same layers look_up is) parted

  pub bare-passed : (most : ℕ) → Leaves (BareParted stack sets id) (BareNeeded stack sets id) most (Some most)
  bare-passed most = (0, ([], inl refl, refl), omega arith)

  pub bare-parted : (most : ℕ) (found : Option ℕ) → IsParted (trace_of (without_overlays stack) id) sets most found → Leaves (BareParted stack sets id) (BareNeeded stack sets id) most found
  bare-parted most (Some left) parted = (length parted.0, (parted.0, inr parted.1, refl), parted.2)
  bare-parted most None needed = (length needed.0, (needed.0, needed.1, refl), needed.2)

  module _ (cells : List (List (Option RowUse))) where
    pub id-passed : (most : ℕ) → NoneAsked stack cells id → IdLeaves stack sets cells id most (Some most)
    id-passed most none = (0, inl (none, refl), omega arith)

    module _ (some : SomeAsked stack (AsksAt cells) id) (most : ℕ) where
      pub id-too-large : IsParted (trace_of stack id) sets most None → IdLeaves stack sets cells id most None
      id-too-large needed =
          (length needed.0, inr (some, record { nodes = needed.0; tree = needed.1; bare = []; bare_tree = inl refl; in_all = omega arith }), needed.2)

      pub id-once : (left : ℕ) → IsParted (trace_of stack id) sets most (Some left) → IdLeaves stack sets cells id most (Some left)
      id-once left parted =
          (length parted.0, inr (some, record { nodes = parted.0; tree = parted.1; bare = []; bare_tree = inl refl; in_all = omega arith }), parted.2)

      pub id-twice : (left : ℕ) (found : Option ℕ) → IsParted (trace_of stack id) sets most (Some left) → Leaves (BareParted stack sets id) (BareNeeded stack sets id) left found → IdLeaves stack sets cells id most found
      id-twice left (Some rest) first second =
          let a = first.2 in
          let b = second.1.2 in
          let c = second.2 in
          (length first.0 + length second.1.0, inr (some, record { nodes = first.0; tree = first.1; bare = second.1.0; bare_tree = second.1.1; in_all = refl }), omega (arith, a, b, c))
      id-twice left None first second =
          let a = first.2 in
          let b = second.1.2 in
          let c = second.2 in (
            length first.0 + length second.1.0,
            inr (some, record { nodes = first.0; tree = parting-needed (trace_of stack id) sets first.0 first.1; bare = second.1.0; bare_tree = inr second.1.1; in_all = refl }),
            omega (arith, a, b, c),
          )

-- ---- ids one after the other

-- the same, told otherwise
pub counts-map : (stack : List LayerOf) (old new : (List ℕ → Trace) → List NodeOf → Type 0) (asks wants : RowPlace → Type 0) (passes skips : ℕ → Type 0) → ((trace : List ℕ → Trace) (nodes : List NodeOf) → old trace nodes → new trace nodes)
    → ((row : RowPlace) → asks row → wants row) → ((id : ℕ) → passes id → skips id) → (id count : ℕ) → Counts old stack asks passes id count → Counts new stack wants skips id count
counts-map stack old new asks wants passes skips f g h id count (inl none) = inl (h id none.0, none.1)
counts-map stack old new asks wants passes skips f g h id count (inr some) =
    let has = some.1 in
    inr (
      (some.0.0, some.0.1, g some.0.0 some.0.2),
      record {
        nodes = has.nodes;
        tree = f _ has.nodes has.tree;
        bare = has.bare;
        bare_tree = elim has.bare_tree [ inl none ↦ inl none | inr tree ↦ inr (f _ has.bare tree) ];
        in_all = has.in_all;
      },
    )

pub trees-map : (stack : List LayerOf) (tree : (List ℕ → Trace) → List NodeOf → Type 0) (asks wants : RowPlace → Type 0) (passes skips : ℕ → Type 0) → ((row : RowPlace) → asks row → wants row) → ((id : ℕ) → passes id → skips id)
    → (ids : List ℕ) (count : ℕ) → HaveTrees tree stack asks passes ids count → HaveTrees tree stack wants skips ids count
trees-map stack tree asks wants passes skips g h [] count none = none
trees-map stack tree asks wants passes skips g h (id ∷ ids) count have =
    (have.0, have.1, counts-map stack tree tree asks wants passes skips (λ trace nodes is. is) g h id have.0 have.2, trees-map stack tree asks wants passes skips g h ids have.1 have.3, have.4)

-- those that are left have none
pub none-counted : (stack : List LayerOf) (tree : (List ℕ → Trace) → List NodeOf → Type 0) (asks : RowPlace → Type 0) (ids : List ℕ) → HaveTrees tree stack asks (λ id. Unit {0}) ids 0
none-counted stack tree asks [] = refl
none-counted stack tree asks (id ∷ ids) = (0, 0, inl (tt, refl), none-counted stack tree asks ids, refl)

-- what was counted so far, whatever the others have
abbrev pub SoFar : (List ℕ → ℕ → Type 0) → List ℕ → List ℕ → ℕ → Type 0
SoFar have all left count = (rest : ℕ) → have left rest → have all (count + rest)

module _ (stack : List LayerOf) (sets : List SetOf) (start : List (List (Option RowUse))) where
  abbrev pub Parted : List ℕ → ℕ → Type 0
  Parted ids count = HaveTrees (λ trace. IsParting trace sets) stack (AsksAt start) (NoneAsked stack start) ids count

  abbrev pub Needed : List ℕ → ℕ → Type 0
  Needed ids count = HaveTrees (λ trace. IsNeeded trace sets) stack (AsksAt start) (λ id. Unit {0}) ids count

  -- how many were counted, where so many are left
  pub record Counting (all left : List ℕ) (most rest : ℕ) : Type 0 where
    pub count : ℕ
    pub is : count + rest ≡ most
    pub parted : SoFar Parted all left count
    pub needed : SoFar Needed all left count

  pub counting-begins : (all left : List ℕ) (most : ℕ) → left ≡ all → Counting all left most most
  counting-begins all left most e = record {
    count = 0;
    is = omega arith;
    parted = λ rest have. subst (Parted all) (let same : rest ≡ 0 + rest = omega arith in same) (subst (λ (ids : List ℕ). Parted ids rest) e have);
    needed = λ rest have. subst (Needed all) (let same : rest ≡ 0 + rest = omega arith in same) (subst (λ (ids : List ℕ). Needed ids rest) e have);
  }

  pub counting-next : (cells : List (List (Option RowUse))) (A B : RowPlace → ℕ → Type 0) → KeepsReach start A cells B → (all left others : List ℕ) (id most rest less : ℕ) (found : Option ℕ) → left ≡ id ∷ others
      → Counting all left most rest → found ≡ Some less → IdLeaves stack sets cells id rest found → Counting all others most less
  counting-next cells A B keeps all left others id most rest less found e so_far f told =
      let step = subst (IdLeaves stack sets cells id rest) f told in
      let here = step.0 in
      let a = so_far.is in
      let b = step.2 in
      let now = counts-map stack (λ trace. IsParting trace sets) (λ trace. IsParting trace sets) (AsksAt cells) (AsksAt start) (NoneAsked stack cells) (NoneAsked stack start) (λ trace nodes is. is)
      (λ row one. asked-before start cells A B keeps row one) (λ other none row has one. none row has (asked-after start cells A B keeps row one)) id here step.1 in
      let weak = counts-map stack (λ trace. IsParting trace sets) (λ trace. IsNeeded trace sets) (AsksAt start) (AsksAt start) (NoneAsked stack start) (λ id. Unit {0}) (λ trace nodes is. parting-needed trace sets nodes is)
      (λ row one. one) (λ other none. tt) id here now in
      record {
        count = so_far.count + here;
        is = omega (arith, a, b);
        parted = λ n have. subst (Parted all) (let e : so_far.count + (here + n) ≡ (so_far.count + here) + n = omega arith in e)
            (so_far.parted (here + n) (subst (λ (ids : List ℕ). Parted ids (here + n)) (sym e) (here, n, now, have, refl)));
        needed = λ n have. subst (Needed all) (let e : so_far.count + (here + n) ≡ (so_far.count + here) + n = omega arith in e)
            (so_far.needed (here + n) (subst (λ (ids : List ℕ). Needed ids (here + n)) (sym e) (here, n, weak, have, refl)));
      }

  pub counting-ends : (all left : List ℕ) (most rest : ℕ) → left ≡ [] → Counting all left most rest → IdsLeave stack sets start all most (Some rest)
  counting-ends all left most rest e so_far =
      let a = so_far.is in
      (so_far.count + 0, so_far.parted 0 (subst (λ (ids : List ℕ). Parted ids 0) (sym e) refl), omega (arith, a))

  pub counting-breaks : (cells : List (List (Option RowUse))) (A B : RowPlace → ℕ → Type 0) → KeepsReach start A cells B → (all left others : List ℕ) (id most rest : ℕ) (found : Option ℕ) → left ≡ id ∷ others
      → Counting all left most rest → found ≡ None → IdLeaves stack sets cells id rest found → IdsLeave stack sets start all most None
  counting-breaks cells A B keeps all left others id most rest found e so_far f told =
      let step = subst (IdLeaves stack sets cells id rest) f told in
      let here = step.0 in
      let a = so_far.is in
      let b = step.2 in
      let weak = counts-map stack (λ trace. IsNeeded trace sets) (λ trace. IsNeeded trace sets) (AsksAt cells) (AsksAt start) (λ id. Unit {0}) (λ id. Unit {0}) (λ trace nodes is. is)
      (λ row one. asked-before start cells A B keeps row one) (λ other none. tt) id here step.1 in (
        so_far.count + (here + 0),
        so_far.needed (here + 0) (subst (λ (ids : List ℕ). Needed ids (here + 0)) (sym e) (here, 0, weak, none-counted stack (λ trace. IsNeeded trace sets) (AsksAt start) others, refl)),
        omega (arith, a, b),
      )

-- ---- all ids

-- a row that has a level is there, so it is known whether it is asked for
asks-of : (stack : List LayerOf) (asked : Option (List ℕ)) (start : List (List (Option RowUse))) → IsBegun stack asked start → (row : RowPlace) → 1 ≤ level_at start row → IsAsked stack asked row
asks-of stack asked start begun row one = by (told_at start row) refl
  where
    by : (o : Option (Option RowUse)) → told_at start row ≡ o → IsAsked stack asked row
    by None at = let none : level_at start row ≡ 0 = level-of-told start row None at in absurd (omega (arith, none, one))
    by (Some told) at = (begun.asked_for row told at).0 one

nothing-told : (stack : List LayerOf) (start end : List (List (Option RowUse))) (A B : RowPlace → ℕ → Type 0) → KeepsReach start A end B → (id : ℕ) → NoneAsked stack start id → NothingTold stack end id
nothing-told stack start end A B keeps id none = λ row becomes has at.
    none row has (asked-before start end A B keeps row (positive becomes (level_at end row) (level-of-told end row (Some (Some becomes)) at)))

pub is-within : (stack : List LayerOf) (sets : List SetOf) (asked : Option (List ℕ)) (start end : List (List (Option RowUse))) (A B : RowPlace → ℕ → Type 0) (ids : List ℕ) (most left : ℕ) → IsBegun stack asked start
    → KeepsReach start A end B → IsStrictlySortedBy nat_cmp ids → ((id : ℕ) → row_places stack id ≢ [] → Contains ids id) → IdsLeave stack sets start ids most (Some left) → IsWithin stack sets asked most (Some end)
is-within stack sets asked start end A B ids most left begun keeps rising complete leaves =
    let e = leaves.2 in (
      ids,
      rising,
      complete,
      (leaves.0, trees-map stack (λ trace. IsParting trace sets) (AsksAt start) (IsAsked stack asked) (NoneAsked stack start) (NothingTold stack end) (asks-of stack asked start begun) (nothing-told stack start end A B keeps) ids leaves.0 leaves.1, omega (arith, e)),
    )

pub is-above : (stack : List LayerOf) (sets : List SetOf) (asked : Option (List ℕ)) (start : List (List (Option RowUse))) (ids : List ℕ) (most : ℕ) → IsBegun stack asked start → IsStrictlySortedBy nat_cmp ids
    → IdsLeave stack sets start ids most None → IsWithin stack sets asked most None
is-above stack sets asked start ids most begun rising above =
    (ids, rising, (above.0, trees-map stack (λ trace. IsNeeded trace sets) (AsksAt start) (IsAsked stack asked) (λ id. Unit {0}) (λ id. Unit {0}) (asks-of stack asked start begun) (λ id none. none) ids above.0 above.1, above.2))
