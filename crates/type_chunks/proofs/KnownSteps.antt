-- How the type specs of a package come to be known.
use Rattle.std.proofs.Common.{◌≡◌, ◌≢◌, ℕ, ◌<◌, List, [], ◌∷◌, slice_index, Some, None, Result, Ok, Err, refl, sym, ap, ◌∙◌, arith}
use Rattle.std.specs.Prelude.{◌==◌, ◌&&◌, if◌then◌else◌, OnOk}
use Rattle.std.proofs.lemmas.Bool.Decides.{nat_tests}
use Rattle.contract_words.proofs.FaultSteps.{checked_by-ok}
use Rattle.string_pool.specs.chunk_walk.Chunk.{ChunkOf}
use Rattle.string_pool.specs.chunk_walk.declared.chunk.ChunkFault.{ChunkFault}
use Rattle.type_entries.specs.declared.type_spec.TypeSpec.{TypeSpec}
use Rattle.type_entries.specs.TypeSpec.{TypeSpecOf, type_spec_of, spec_fields, type_spec_faults, type_spec_in}
use Rattle.type_chunks.specs.declared.known_specs.KnownSpecs.{KnownSpecs}
use Rattle.type_chunks.specs.LastSpec.{last_spec}
use Rattle.type_chunks.specs.KnownSpecs.{kept_spec, Knows}

-- a type spec that is read has the fields of its chunk
type_spec_in-ok : (chunk : ChunkOf) (spec : TypeSpecOf) → type_spec_in chunk ≡ Ok spec → spec_fields chunk ≡ spec
unfolding type_spec_in
type_spec_in-ok chunk spec e = let read = (checked_by-ok (type_spec_faults chunk) (Ok (spec_fields chunk)) spec e).1 in cc

-- the same choice, where the chunk is a type spec
same_choice : {X : Type 0} (kind found spec id : ℕ) (x y z w : X) → kind ≡ 0x0202 → found ≡ spec → x ≡ z → y ≡ w
    → (if spec == id then z else w) ≡ (if kind == 0x0202 && found == id then x else y)
same_choice kind found spec id x y z w is_spec same ex ey = rw (is_spec, same, ex, ey) refl

-- the other choice, where it is none
other_choice : {X : Type 0} (kind found id : ℕ) (x y : X) → kind ≢ 0x0202 → y ≡ (if kind == 0x0202 && found == id then x else y)
other_choice kind found id x y other = grind (arith, nat_tests)

-- nothing is known at first
pub Knows-none : (specs : KnownSpecs) → ((id : ℕ) → id < 256 → kept_spec specs id ≡ None) → Knows specs []
unfolding last_spec
Knows-none specs none = record { last = none }

-- a type spec is known once it is kept
pub Knows-kept : (old new : KnownSpecs) (spec : TypeSpec) (chunk : ChunkOf) (before : List (Result ChunkOf ChunkFault))
    → ((id : ℕ) → kept_spec new id ≡ (if spec.id == id then Some (type_spec_of spec) else kept_spec old id))
    → Ok (type_spec_of spec) ≡ type_spec_in chunk → chunk.kind ≡ 0x0202 → Knows old before → Knows new (Ok chunk ∷ before)
unfolding last_spec
Knows-kept old new spec chunk before kept read kind known =
    let fields : spec_fields chunk ≡ type_spec_of spec = type_spec_in-ok chunk (type_spec_of spec) (sym read) in
    let same : slice_index chunk.header 8 ≡ spec.id = ap (λ (s : TypeSpecOf). s.id) fields in
    record {
      last = λ id below. kept id ∙ same_choice chunk.kind (slice_index chunk.header 8) spec.id id (Some (spec_fields chunk)) (last_spec id before) (Some (type_spec_of spec)) (kept_spec old id)
          kind same (ap (λ (s : TypeSpecOf). Some s) fields) (sym (known.last id below));
    }

-- a chunk of another kind changes nothing
pub Knows-other : (specs : KnownSpecs) (chunk : ChunkOf) (before : List (Result ChunkOf ChunkFault)) → chunk.kind ≢ 0x0202 → Knows specs before → Knows specs (Ok chunk ∷ before)
unfolding last_spec
Knows-other specs chunk before other known = record {
  last = λ id below. known.last id below ∙ other_choice chunk.kind (slice_index chunk.header 8) id (Some (spec_fields chunk)) (last_spec id before) other;
}

-- what holds anyway
pub on_ok : {X E : Type 0} (P : Type 0) (r : Result X E) → P → OnOk r P
on_ok P (Ok x) p = p
on_ok P (Err e) p = tt
