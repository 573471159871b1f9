use Rattle.std.proofs.Common.{arith}
use Rattle.std.proofs.lemmas.Result.{err_from_is_err_and}
use Rattle.string_pool.specs.chunk_walk.Chunk.{chunk_of}
use Rattle.type_chunks.proofs.KnownSteps.{Knows-kept, Knows-other, on_ok}
use Rattle.type_chunks.proofs.PlacesSteps.{spec-stands, specs-stand, chunk-fault, spec-fault, spec-rows, other-rows}
use Rattle.type_chunks.proofs.package_children.push_child.Goals as goal

pub returns-in_ok-read-in-514-clause-known : goal.returns-in_ok-read-in-514-clause-known
returns-in_ok-read-in-514-clause-known c = λ before known.
    rw c.in_ok-chunk.was (Knows-kept c.args.specs.now c.keep.new.self c.in_ok-read-in-514.field-0 (chunk_of c.in_ok-chunk.chunk) before c.keep.ensures.seen c.in_ok-read-in-514.ensures.value c.in-514.is known)

pub returns-in_ok-read-in-514-clause-specs : goal.returns-in_ok-read-in-514-clause-specs
returns-in_ok-read-in-514-clause-specs c =
    let stands = rw c.in_ok-chunk.was at c.requires.stands in
    specs-stand (chunk_of c.args.container.now) c.args.specs.now c.keep.new.self c.in_ok-read-in-514.field-0 c.keep.ensures.value
    (spec-stands (chunk_of c.args.container.now) (chunk_of c.in_ok-chunk.chunk) c.in_ok-read-in-514.field-0 stands c.in_ok-read-in-514.ensures.place c.in_ok-read-in-514.ensures.value) c.requires.specs

pub returns-in-513-clause-known : goal.returns-in-513-clause-known
returns-in-513-clause-known c = λ before known.
    rw c.in_ok-chunk.was (on_ok _ c.push_type.result (Knows-other c.args.specs.now (chunk_of c.in_ok-chunk.chunk) before (λ e. omega arith) known))

pub returns-in_default-clause-known : goal.returns-in_default-clause-known
returns-in_default-clause-known c = λ before known.
    rw c.in_ok-chunk.was (Knows-other c.args.specs.now (chunk_of c.in_ok-chunk.chunk) before (λ e. omega arith) known)

pub returns-in_err-chunk-clause-rows : goal.returns-in_err-chunk-clause-rows
returns-in_err-chunk-clause-rows c = λ before known.
    let p = err_from_is_err_and c.from_residual.result c.from_residual.ensures.1 in
    rw (p.1, p.2) (λ other. rw c.in_err-chunk.was (chunk-fault c.args.owner before _ c.in_err-chunk.field-0.0))

pub returns-in_err-read-in-514-clause-rows : goal.returns-in_err-read-in-514-clause-rows
returns-in_err-read-in-514-clause-rows c = λ before known.
    let p = err_from_is_err_and c.from_residual-in_err-read-in-514.result c.from_residual-in_err-read-in-514.ensures.1 in
    rw (p.1, p.2) (λ other. rw c.in_ok-chunk.was (spec-fault c.args.owner before _ (chunk_of c.in_ok-chunk.chunk) _ c.in-514.is c.in_err-read-in-514.ensures.value))

pub returns-in_ok-read-in-514-clause-rows : goal.returns-in_ok-read-in-514-clause-rows
returns-in_ok-read-in-514-clause-rows c = λ before known.
    rw c.in_ok-chunk.was (spec-rows c.args.owner before _ (chunk_of c.in_ok-chunk.chunk) _ c.in-514.is c.in_ok-read-in-514.ensures.value)

pub returns-in-513-clause-rows : goal.returns-in-513-clause-rows
returns-in-513-clause-rows c = λ before known. rw c.in_ok-chunk.was (c.push_type.ensures.rows before known)

pub returns-in_default-clause-rows : goal.returns-in_default-clause-rows
returns-in_default-clause-rows c = λ before known.
    rw c.in_ok-chunk.was (other-rows c.args.owner before _ (chunk_of c.in_ok-chunk.chunk) (λ e. omega arith) (λ e. omega arith))

pub returns-in-513-clause-specs : goal.returns-in-513-clause-specs
returns-in-513-clause-specs c = on_ok _ c.push_type.result c.requires.specs
