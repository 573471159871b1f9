use Rattle.std.proofs.Common.{◌+◌, ◌≤◌, List, [], ◌∷◌, ◌++◌, length, arith, ◌≡◌, Option, Some, Ok, sym, ap, ◌∙◌}
use Rattle.std.proofs.lemmas.List.{length-append}
use Rattle.std.specs.Option.{option_map}
use Rattle.std.proofs.lemmas.Result.{err_from_is_err_and}
use Rattle.string_pool.specs.chunk_walk.Chunk.{chunk_of}
use Rattle.type_entries.specs.declared.type_spec.TypeSpec.{TypeSpec}
use Rattle.type_entries.specs.TypeSpec.{type_spec_of}
use Rattle.type_entries.specs.TypeChunk.{type_chunk_of}
use Rattle.type_chunks.specs.TypePlaces.{type_at}
use Rattle.type_chunks.proofs.PlacesSteps.{type_at-found, keeps, kept-stands, type-fault, entries-fault, type-pushed}
use Rattle.type_chunks.proofs.package_children.push_type.Goals as goal

one_more : {X : Type 0} (old new : List X) (x : X) → new ≡ old ++ x ∷ [] → length new ≤ length old + 1
one_more {X} old new x pushed = omega (arith, ap (λ (xs : List X). length xs) pushed, length-append old (x ∷ []))

pub of-requires-clause-spec : goal.of-requires-clause-spec
of-requires-clause-spec c = kept-stands (chunk_of c.args.container.now) c.args.specs.now _ _ c.requires.specs c.of_type.ensures.within (sym c.of_type.ensures.value ∙ c.in_ok-read.ensures.spec)

pub returns-in_err-read-clause-rows : goal.returns-in_err-read-clause-rows
returns-in_err-read-clause-rows c = λ before known.
    let p = err_from_is_err_and c.from_residual.result c.from_residual.ensures.1 in
    rw (p.1, p.2) (λ other. type-fault c.args.owner c.args.specs.now before (chunk_of c.args.chunk.now) c.of_type.result known c.requires.kind c.of_type.ensures.within c.of_type.ensures.value _ _ c.in_err-read.ensures.value)

pub returns-in_err-check_entries-clause-rows : goal.returns-in_err-check_entries-clause-rows
returns-in_err-check_entries-clause-rows c = λ before known.
    let p = err_from_is_err_and c.from_residual-in_err-check_entries.result c.from_residual-in_err-check_entries.ensures.1 in
    rw (p.1, p.2) (λ other. entries-fault c.args.owner c.args.specs.now before (chunk_of c.args.chunk.now) c.of_type.result known c.requires.kind c.of_type.ensures.within c.of_type.ensures.value _
    (type_chunk_of c.in_ok-read.read) _ c.in_ok-read.ensures.value (c.in_err-check_entries.ensures.fault other))

pub returns-clause-kept : goal.returns-clause-kept
returns-clause-kept c =
    let at = type_at-found c.args.owner (chunk_of c.args.container.now) c.of.result _ _ c.of.ensures.chunk c.of.ensures.spec in
    let spec : option_map type_spec_of c.of_type.result ≡ Some (type_spec_of c.in_ok-read.read.spec) = ap (λ (o : Option TypeSpec). option_map type_spec_of o) c.in_ok-read.ensures.spec in
    let is : type_at c.args.owner (chunk_of c.args.container.now) c.of.result ≡ Ok (type_chunk_of c.in_ok-read.read) = at ∙ rw (sym spec) (sym c.in_ok-read.ensures.value) in
    rw c.in_ok-push.ensures.items
    (keeps c.args.owner (chunk_of c.args.container.now) _ c.of.result (type_chunk_of c.in_ok-read.read) c.requires.kept c.of.ensures.chunk_inside c.of.ensures.spec_inside is c.in_ok-read.read.few c.in_ok-check_entries.ensures.checked)

pub returns-clause-rows : goal.returns-clause-rows
returns-clause-rows c = λ before known.
    let at = type_at-found c.args.owner (chunk_of c.args.container.now) c.of.result _ _ c.of.ensures.chunk c.of.ensures.spec in
    let spec : option_map type_spec_of c.of_type.result ≡ Some (type_spec_of c.in_ok-read.read.spec) = ap (λ (o : Option TypeSpec). option_map type_spec_of o) c.in_ok-read.ensures.spec in
    let is : type_at c.args.owner (chunk_of c.args.container.now) c.of.result ≡ Ok (type_chunk_of c.in_ok-read.read) = at ∙ rw (sym spec) (sym c.in_ok-read.ensures.value) in
    rw c.in_ok-push.ensures.items
    (type-pushed c.args.owner c.args.specs.now before (chunk_of c.args.chunk.now) c.of_type.result known c.requires.kind c.of_type.ensures.within c.of_type.ensures.value (chunk_of c.args.container.now) _ c.of.result
    (type_chunk_of c.in_ok-read.read) c.in_ok-read.ensures.value is c.in_ok-check_entries.ensures.checked)

pub returns-clause-one : goal.returns-clause-one
returns-clause-one c = one_more c.args.places.now.items c.push.new.self.items _ c.in_ok-push.ensures.items
