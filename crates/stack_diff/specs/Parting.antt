-- How many nodes have the trees that part the devices of a box?
use Rattle.std.specs.Prelude.{◌≡◌, ◌≢◌, ◌⊎◌, ℕ, ◌+◌, ◌<◌, ◌≤◌, List, [], ◌∷◌, length, Option, Some, None, Contains}
use Rattle.std.specs.List.Sorted.{IsStrictlySortedBy}
use Rattle.std.specs.Ordering.{nat_cmp}
use Rattle.config_box.specs.box_answers.NumberSet.{SetOf}
use Rattle.reference_resolver.specs.Trace.{Trace}
use Rattle.cert_maker.specs.cert_tree.Certificate.{NodeOf, TestAt, ValueAt, BagAt}
use Rattle.cert_maker.specs.cert_checker.Paths.{Path, IsAt}
use Rattle.cert_maker.specs.Needed.{IsNeededTest, IsNeeded}
use Rattle.cert_maker.specs.Walk.{HoldsOfTree}
use Rattle.cert_maker.specs.cert_checker.box_trace.TraceAmong.{trace_among}
use Rattle.reference_resolver.specs.overlay_map.Layer.{LayerOf}
use Rattle.reference_resolver.specs.overlay_map.Candidates.{candidates_of}
use Rattle.stack_diff.specs.declared.row_place.RowPlace.{RowPlace}
use Rattle.stack_diff.specs.declared.row_use.RowUse.{RowUse}
use Rattle.stack_diff.specs.RowPlaces.{StandsFor, row_places}
use Rattle.stack_diff.specs.Loading.{without_overlays}
use Rattle.stack_diff.specs.RowUses.{told_at, IsAsked}

-- all members of which a predicate holds have one trace, in one stack or in two
abbrev pub HaveOneTrace : {X : Type 0} → (List ℕ → Type 0) → (List ℕ → X) → Type 0
HaveOneTrace members trace = (d e : List ℕ) → members d → members e → trace d ≡ trace e

-- a test is needed, and all that come to a leaf have one trace
abbrev pub PartsAt : {X : Type 0} → (List ℕ → X) → List SetOf → NodeOf → Path → Type 0
PartsAt trace sets (TestAt test) path = IsNeededTest trace sets (IsAt sets path) test
PartsAt trace sets (ValueAt layer value) path = HaveOneTrace (IsAt sets path) trace
PartsAt trace sets (BagAt id) path = HaveOneTrace (IsAt sets path) trace

-- a tree parts the members of a box until those of each part have one trace, with needed tests alone
abbrev pub IsParting : {X : Type 0} → (List ℕ → X) → List SetOf → List NodeOf → Type 0
IsParting trace sets nodes = HoldsOfTree (PartsAt trace sets) nodes

-- such a tree leaves so many nodes of the limit; or one of needed tests is above it
abbrev pub IsParted : (List ℕ → Trace) → List SetOf → ℕ → Option ℕ → Type 0
IsParted trace sets most (Some left) = (nodes : List NodeOf) × IsParting trace sets nodes × (length nodes + left ≡ most)
IsParted trace sets most None = (nodes : List NodeOf) × IsNeeded trace sets nodes × (most < length nodes)

-- ---- the look-ups of ids

-- what the candidates of an id do
abbrev pub trace_of : List LayerOf → ℕ → List ℕ → Trace
trace_of stack id = trace_among (candidates_of stack id)

-- An id has a tree, and perhaps another one for where overlays do nothing: so many nodes in all.
pub record HasTrees (is_tree : (List ℕ → Trace) → List NodeOf → Type 0) (stack : List LayerOf) (id count : ℕ) : Type 0 where
  pub nodes : List NodeOf
  pub tree : is_tree (trace_of stack id) nodes
  pub bare : List NodeOf
  pub bare_tree : (bare ≡ []) ⊎ is_tree (trace_of (without_overlays stack) id) bare
  pub in_all : count ≡ length nodes + length bare

-- Some row that may stand for it is asked for, and it has them; or it is passed by.
abbrev pub Counts : ((List ℕ → Trace) → List NodeOf → Type 0) → List LayerOf → (RowPlace → Type 0) → (ℕ → Type 0) → ℕ → ℕ → Type 0
Counts is_tree stack asks passes id count =
    (passes id × (count ≡ 0)) ⊎ (((row : RowPlace) × StandsFor stack row id × asks row) × HasTrees is_tree stack id count)

-- ids one after the other
abbrev pub HaveTrees : ((List ℕ → Trace) → List NodeOf → Type 0) → List LayerOf → (RowPlace → Type 0) → (ℕ → Type 0) → List ℕ → ℕ → Type 0
HaveTrees is_tree stack asks passes [] count = count ≡ 0
HaveTrees is_tree stack asks passes (id ∷ ids) count =
    (here : ℕ) × (rest : ℕ) × Counts is_tree stack asks passes id here × HaveTrees is_tree stack asks passes ids rest × (count ≡ here + rest)

-- nothing is told of the rows that may stand for an id
abbrev pub NothingTold : List LayerOf → List (List (Option RowUse)) → ℕ → Type 0
NothingTold stack uses id = (row : RowPlace) (becomes : RowUse) → StandsFor stack row id → told_at uses row ≢ Some (Some becomes)

-- Each id that a row may stand for is looked up once, where something is told of such a row, and the trees that part the
-- members are within the limit. Or trees of needed tests are above it, each of another id.
abbrev pub IsWithin : List LayerOf → List SetOf → Option (List ℕ) → ℕ → Option (List (List (Option RowUse))) → Type 0
IsWithin stack sets asked most (Some uses) =
    (ids : List ℕ) × IsStrictlySortedBy nat_cmp ids × ((id : ℕ) → row_places stack id ≢ [] → Contains ids id)
    × ((count : ℕ) × HaveTrees (λ trace. IsParting trace sets) stack (IsAsked stack asked) (NothingTold stack uses) ids count × (count ≤ most))
IsWithin stack sets asked most None =
    (ids : List ℕ) × IsStrictlySortedBy nat_cmp ids
    × ((count : ℕ) × HaveTrees (λ trace. IsNeeded trace sets) stack (IsAsked stack asked) (λ id. Unit {0}) ids count × (most < count))
