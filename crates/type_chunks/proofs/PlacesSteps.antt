-- How the types of a package are kept by their places.
use Rattle.std.proofs.Common.{◌≡◌, ◌≢◌, ℕ, ◌-◌, ◌<◌, ◌≤◌, List, [], ◌∷◌, ◌++◌, map, length, length-append, Option, Some, None, Result, Ok, Err, Bor, Iter, refl, sym, ap, subst, ◌∙◌, arith}
use Rattle.std.specs.Prelude.{◌*◌, ◌^◌, ◌==◌, Bool, true, false, IsOk, IfSome, All, slice_index, if◌then◌else◌}
use Rattle.std.specs.Result.{ForOk}
use Rattle.std.specs.List.{flat_map}
use Rattle.std.specs.Option.{option_map}
use Rattle.std.specs.Slice.Iter.{iter_rest, iter_steps}
use Rattle.std.proofs.lemmas.List.{append-nil}
use Rattle.std.proofs.lemmas.Bool.Decides.{nat_tests}
use Rattle.std.proofs.lemmas.List.Concat.{flat_map-append}
use Rattle.std.proofs.lemmas.List.Elements.{All-head, All-tail, All-rest, All-same, All-push}
use Rattle.contract_words.specs.Faults.{◌>>=◌}
use Rattle.contract_words.specs.Sequences.{with_front}
use Rattle.string_pool.specs.chunk_walk.Chunk.{ChunkOf, chunk_of, chunk_within}
use Rattle.string_pool.specs.chunk_walk.Chunks.{StandsAt}
use Rattle.string_pool.specs.chunk_walk.declared.chunk.ChunkFault.{ChunkFault}
use Rattle.type_entries.specs.declared.fault.TableFault.{TableFault}
use Rattle.type_entries.specs.declared.fault.TableFault.TheVariants as faults
use Rattle.type_entries.specs.declared.owner.Owner.{Owner}
use Rattle.type_entries.specs.declared.type_spec.TypeSpec.{TypeSpec}
use Rattle.type_entries.specs.Row.{RowOf}
use Rattle.type_entries.specs.TypeSpec.{TypeSpecOf, type_spec_of, type_spec_in}
use Rattle.type_entries.specs.TypeChunk.{TypeChunkOf, type_with}
use Rattle.type_entries.specs.Entries.{IsChecked, rows_from, rows_of_entries}
use Rattle.type_entries.specs.TypeRows.{rows_of_each}
use Rattle.type_entries.proofs.EntriesSteps.{rows_of_entries-read}
use Rattle.type_entries.proofs.TypeRowsSteps.{length-rows_of_chunk}
use Rattle.type_chunks.specs.declared.known_specs.KnownSpecs.{KnownSpecs}
use Rattle.type_chunks.specs.declared.package_types.PackageTypes.{PackageTypes}
use Rattle.type_chunks.specs.declared.type_place.TypePlace.{TypePlace}
use Rattle.type_chunks.specs.Layout.{type_kind, type_spec_kind}
use Rattle.type_chunks.specs.FoundChunk.{found_chunk}
use Rattle.type_chunks.specs.LastSpec.{type_in}
use Rattle.type_chunks.specs.KnownSpecs.{kept_for, Knows, SpecsStand}
use Rattle.type_chunks.specs.PackageChildren.{rows_of_child, rows_of_kept}
use Rattle.type_chunks.specs.TypePlaces.{spec_at, SpecStands, type_at, IsKept, AreKept, rows_of_read, rows_at, rows_of_places}

module _ (owner : Owner) (within : ChunkOf) where
  pub rows_of_places-none : rows_of_places owner within [] ≡ []
  unfolding rows_of_places
  rows_of_places-none = refl

  -- the rows of places are those of each, one after the other
  pub rows_of_places_each : (places : List TypePlace) → rows_of_each (map (rows_at owner within) places) ≡ rows_of_places owner within places
  unfolding rows_of_places
  rows_of_places_each [] = refl
  rows_of_places_each (place ∷ places) = ap (λ (rows : List RowOf). rows_at owner within place ++ rows) (rows_of_places_each places)

  -- ---- a place is kept

  -- what stands at a place is the type that was read
  pub type_at-found : (place : TypePlace) (chunk : ChunkOf) (spec : TypeSpecOf) → chunk_within within place.chunk ≡ Ok chunk → spec_at within place.spec ≡ Ok spec
      → type_at owner within place ≡ type_with owner (Some spec) chunk
  type_at-found place chunk spec found of = rw (found, of) refl

  pub keeps : (places : List TypePlace) (place : TypePlace) (chunk : TypeChunkOf) → AreKept owner within places → place.chunk ≤ length within.whole → place.spec ≤ length within.whole
      → type_at owner within place ≡ Ok chunk → chunk.offset_count < 2 ^ 32 → IsChecked chunk → AreKept owner within (places ++ place ∷ [])
  keeps places place chunk kept inside spec_inside is few read =
      All-push (IsKept owner within) places place kept (inside, spec_inside, rw is refl, λ x e. let same : chunk ≡ x = cc in subst (λ (t : TypeChunkOf). (t.offset_count < 2 ^ 32) × IsChecked t) same (few, read))

  pub pushes-place : (places : List TypePlace) (place : TypePlace) (chunk : TypeChunkOf) → type_at owner within place ≡ Ok chunk → IsChecked chunk
      → with_front (rows_of_places owner within places) (rows_of_entries chunk) ≡ Ok (rows_of_places owner within (places ++ place ∷ []))
  unfolding rows_of_places rows_at
  pushes-place places place chunk is read =
      let rows : rows_of_read (type_at owner within place) ≡ rows_from chunk 0 = ap rows_of_read is in
      let last : flat_map (rows_at owner within) (places ++ place ∷ []) ≡ flat_map (rows_at owner within) places ++ rows_from chunk 0 =
      flat_map-append (rows_at owner within) places (place ∷ [])
      ∙ ap (λ (rows : List RowOf). flat_map (rows_at owner within) places ++ rows) (append-nil (rows_of_read (type_at owner within place)) ∙ rows) in
      rw (rows_of_entries-read chunk read, last) refl

  -- ---- a place is read anew

  chunk_ok : (place : TypePlace) (chunk : Result ChunkOf ChunkFault) → IsOk (found_chunk chunk >>= λ chunk. (spec_at within place.spec >>= λ spec. type_with owner (Some spec) chunk)) → IsOk chunk
  chunk_ok place (Ok chunk) is = refl
  chunk_ok place (Err fault) is = absurd cc

  spec_ok : (place : TypePlace) (chunk : Result ChunkOf ChunkFault) (spec : Result TypeSpecOf TableFault) → IsOk (found_chunk chunk >>= λ chunk. (spec >>= λ spec. type_with owner (Some spec) chunk)) → IsOk spec
  spec_ok place (Ok chunk) (Ok spec) is = refl
  spec_ok place (Ok chunk) (Err fault) is = absurd cc
  spec_ok place (Err other) spec is = absurd cc

  pub chunk_there : (place : TypePlace) → IsKept owner within place → IsOk (chunk_within within place.chunk)
  chunk_there place kept = chunk_ok place (chunk_within within place.chunk) kept.2

  pub spec_there : (place : TypePlace) → IsKept owner within place → IsOk (spec_at within place.spec)
  spec_there place kept = spec_ok place (chunk_within within place.chunk) (spec_at within place.spec) kept.2

  -- ---- how many rows they have

  few-of : (read : Result TypeChunkOf TableFault) → ForOk read (λ chunk. (chunk.offset_count < 2 ^ 32) × IsChecked chunk) → length (rows_of_read read) ≤ 2 ^ 32
  few-of (Ok chunk) few = omega (arith, length-rows_of_chunk chunk, (few chunk refl).0)
  few-of (Err fault) few = omega arith

  pub length-rows_of_places : (places : List TypePlace) → AreKept owner within places → length (rows_of_places owner within places) ≤ length places * 2 ^ 32
  unfolding rows_of_places rows_at
  length-rows_of_places [] kept = omega arith
  length-rows_of_places (place ∷ places) kept =
      let first : IsKept owner within place = kept 0 place (omega arith) in
      let others = length-rows_of_places places (All-tail (IsKept owner within) place places kept) in
      let split = length-append (rows_of_read (type_at owner within place)) (flat_map (rows_at owner within) places) in
      omega (arith, split, few-of (type_at owner within place) first.3, others)

-- no package has more rows than fit in memory
pub length-rows_of_kept : (types : PackageTypes) → length (rows_of_kept types) ≤ 2 ^ 63
length-rows_of_kept types = omega (arith, length-rows_of_places types.owner (chunk_of types.container) types.places.items types.kept, types.few)

-- a type is read with the last type spec of its id
pub type_in-known : (owner : Owner) (specs : KnownSpecs) (before : List (Result ChunkOf ChunkFault)) (chunk : ChunkOf) (found : Option TypeSpec) → Knows specs before
    → slice_index chunk.header 8 < 256 → found ≡ kept_for specs (slice_index chunk.header 8) → type_with owner (option_map type_spec_of found) chunk ≡ type_in owner before chunk
unfolding type_in
type_in-known owner specs before chunk found known below is =
    ap (λ (o : Option TypeSpecOf). type_with owner o chunk) (ap (λ (o : Option TypeSpec). option_map type_spec_of o) is ∙ known.last (slice_index chunk.header 8) below)

-- ---- type specs that stand in their package

pub spec-stands : (within chunk : ChunkOf) (spec : TypeSpec) → StandsAt within chunk → spec.place ≡ chunk.place → Ok (type_spec_of spec) ≡ type_spec_in chunk → SpecStands within spec
spec-stands within chunk spec stands place read =
    let same : spec.place - within.place ≡ chunk.place - within.place = ap (λ (n : ℕ). n - within.place) place in
    record {
      behind = omega (arith, place, stands.behind);
      inside = omega (arith, place, stands.behind, stands.within);
      found = ap (λ (n : ℕ). spec_at within n) same ∙ ap (λ (r : Result ChunkOf ChunkFault). found_chunk r >>= type_spec_in) stands.found ∙ sym read;
    }

-- one more is kept that stands there
pub specs-stand : (within : ChunkOf) (old new : KnownSpecs) (spec : TypeSpec) → ((id : ℕ) → kept_for new id ≡ (if spec.id == id then Some spec else kept_for old id))
    → SpecStands within spec → SpecsStand within old → SpecsStand within new
specs-stand within old new spec kept here stand id below = by (spec.id == id) refl
  where
    by : (same : Bool) → (spec.id == id) ≡ same → IfSome (kept_for new id) (SpecStands within)
    by true e = let is : kept_for new id ≡ Some spec = kept id ∙ rw e refl in rw is here
    by false e = let is : kept_for new id ≡ kept_for old id = kept id ∙ rw e refl in rw is (stand id below)

-- what is kept for an id stands there
pub kept-stands : (within : ChunkOf) (specs : KnownSpecs) (id : ℕ) (spec : TypeSpec) → SpecsStand within specs → id < 256 → kept_for specs id ≡ Some spec → SpecStands within spec
kept-stands within specs id spec stand below is = subst (λ (o : Option TypeSpec). IfSome o (SpecStands within)) is (stand id below)

-- ---- the rows of a type chunk

pub first-of : {A : Type 0} (P : A → Type 0) (x : A) (xs ys : List A) → ys ≡ x ∷ xs → All P ys → P x
first-of P x xs ys split all = All-head P x xs (All-same P (x ∷ xs) ys (sym split) all)

-- what holds of all that is left holds of what is left behind the next
pub all-behind : {A : Type 0} (P : A → Type 0) (old new : Iter A) (next : Option (Bor A)) → iter_steps old next new → All P (iter_rest old) → All P (iter_rest new)
all-behind P old new None steps all = subst (λ it. All P (iter_rest it)) (sym steps.1) all
all-behind P old new (Some x) steps all = All-rest P x.now (iter_rest new) (iter_rest old) steps all

-- the choice where a chunk is a type
as-type : {X : Type 0} (kind : ℕ) (x y z : X) → kind ≡ 0x0201 → (if kind == type_spec_kind then x else (if kind == type_kind then y else z)) ≡ y
as-type kind x y z is = rw is refl

module _ (owner : Owner) (specs : KnownSpecs) (before : List (Result ChunkOf ChunkFault)) (chunk : ChunkOf) (found : Option TypeSpec) (known : Knows specs before)
    (kind : chunk.kind ≡ 0x0201) (below : slice_index chunk.header 8 < 256) (is : found ≡ kept_for specs (slice_index chunk.header 8)) where
  child-rows : (read : Result TypeChunkOf TableFault) → read ≡ type_with owner (option_map type_spec_of found) chunk → rows_of_child owner (before, Ok chunk) ≡ (read >>= rows_of_entries)
  unfolding rows_of_child
  child-rows read e =
      let same : type_in owner before chunk ≡ read = sym (e ∙ type_in-known owner specs before chunk found known below is) in
      as-type chunk.kind _ (type_in owner before chunk >>= rows_of_entries) _ kind ∙ ap (λ (r : Result TypeChunkOf TableFault). r >>= rows_of_entries) same

  pub type-fault : (rows : List RowOf) (fault : TableFault) → Err fault ≡ type_with owner (option_map type_spec_of found) chunk → with_front rows (rows_of_child owner (before, Ok chunk)) ≡ Err fault
  type-fault rows fault e = ap (λ (r : Result (List RowOf) TableFault). with_front rows r) (child-rows (Err fault) e)

  pub entries-fault : (rows : List RowOf) (read : TypeChunkOf) (fault : TableFault) → Ok read ≡ type_with owner (option_map type_spec_of found) chunk → rows_of_entries read ≡ Err fault
      → with_front rows (rows_of_child owner (before, Ok chunk)) ≡ Err fault
  entries-fault rows read fault e wrong = ap (λ (r : Result (List RowOf) TableFault). with_front rows r) (child-rows (Ok read) e ∙ wrong)

  pub type-pushed : (within : ChunkOf) (places : List TypePlace) (place : TypePlace) (read : TypeChunkOf) → Ok read ≡ type_with owner (option_map type_spec_of found) chunk
      → type_at owner within place ≡ Ok read → IsChecked read
      → with_front (rows_of_places owner within places) (rows_of_child owner (before, Ok chunk)) ≡ Ok (rows_of_places owner within (places ++ place ∷ []))
  type-pushed within places place read e at all =
      ap (λ (r : Result (List RowOf) TableFault). with_front (rows_of_places owner within places) r) (child-rows (Ok read) e) ∙ pushes-place owner within places place read at all

-- ---- the rows of other chunks

module _ (owner : Owner) (before : List (Result ChunkOf ChunkFault)) (rows : List RowOf) where
  pub chunk-fault : (fault : ChunkFault) → with_front rows (rows_of_child owner (before, Err fault)) ≡ Err (faults.Chunk fault)
  unfolding rows_of_child
  chunk-fault fault = refl

  pub spec-fault : (chunk : ChunkOf) (fault : TableFault) → chunk.kind ≡ 0x0202 → Err fault ≡ type_spec_in chunk → with_front rows (rows_of_child owner (before, Ok chunk)) ≡ Err fault
  unfolding rows_of_child type_spec_in
  spec-fault chunk fault kind read = rw (kind, ← read) refl

  pub spec-rows : (chunk : ChunkOf) (spec : TypeSpecOf) → chunk.kind ≡ 0x0202 → Ok spec ≡ type_spec_in chunk → with_front rows (rows_of_child owner (before, Ok chunk)) ≡ Ok rows
  unfolding rows_of_child type_spec_in
  spec-rows chunk spec kind read = rw (kind, ← read, append-nil rows) refl

  pub other-rows : (chunk : ChunkOf) → chunk.kind ≢ 0x0202 → chunk.kind ≢ 0x0201 → with_front rows (rows_of_child owner (before, Ok chunk)) ≡ Ok rows
  unfolding rows_of_child
  other-rows chunk spec type =
      let spec : (chunk.kind == type_spec_kind) ≡ false = grind (arith, nat_tests) in
      let type : (chunk.kind == type_kind) ≡ false = grind (arith, nat_tests) in
      rw (spec, type, append-nil rows) refl
