use Rattle.std.proofs.Common.{Bool, length, arith, refl, ap, ◌∙◌}
use Rattle.std.specs.Prelude.{not}
use Rattle.std.proofs.lemmas.List.{length_push, map-append}
use Rattle.std.proofs.lemmas.Result.{err_from_is_err_and}
use Rattle.type_chunks.specs.chunk_walk.Chunk.{chunk_of}
use Rattle.overlay_map.specs.Package.{package_of, packages_of}
use Rattle.overlay_map.proofs.ChildrenSteps.{child-fails, child-package, package-fails, child-pool, pool-fails, child-later, child-other, child-without_chunk}
use Rattle.overlay_map.proofs.table.push_child.Goals as goal

pub returns-in_ok-push-in-512 : goal.returns-in_ok-push-in-512
returns-in_ok-push-in-512 c =
    let long = ap (λ l. length l) c.in_ok-push-in-512.ensures.items in
    rw c.in_ok-chunk.was
    (child-package c.args.known.now _ _ _ _ _ (chunk_of c.in_ok-chunk.chunk) (package_of c.in_ok-read-in-512.field-0) _ c.in-512.is refl refl
    (omega (arith, long, length_push c.args.packages.now.items c.in_ok-read-in-512.field-0)) c.in_ok-read-in-512.ensures
    (ap packages_of c.in_ok-push-in-512.ensures.items ∙ map-append package_of c.args.packages.now.items _))

pub returns-in_ok-open_pool-in-1 : goal.returns-in_ok-open_pool-in-1
returns-in_ok-open_pool-in-1 c =
    rw c.in_ok-chunk.was
    (child-pool c.args.known.now _ _ _ (chunk_of c.in_ok-chunk.chunk) c.in_ok-open_pool-in-1.field-0 _ c.in-1.is (c.is_none.ensures ∙ ap (λ (b : Bool). not b) c.if-is_none.true) refl refl c.in_ok-open_pool-in-1.ensures)

pub returns-else-is_none : goal.returns-else-is_none
returns-else-is_none c = rw c.in_ok-chunk.was (child-later c.args.known.now _ _ (chunk_of c.in_ok-chunk.chunk) _ c.in-1.is (c.is_none.ensures ∙ ap (λ (b : Bool). not b) c.if-is_none.false))

pub returns-in_ok-chunk : goal.returns-in_ok-chunk
returns-in_ok-chunk c = rw c.in_ok-chunk.was (child-other c.args.known.now _ _ (chunk_of c.in_ok-chunk.chunk) _ (λ e. omega arith) (λ e. omega arith))

pub returns-in_err-chunk : goal.returns-in_err-chunk
returns-in_err-chunk c =
    let p = err_from_is_err_and c.from_residual.result c.from_residual.ensures.1 in
    rw (p.1, p.2, c.in_err-chunk.was) (child-fails c.args.known.now _ _ _ _ _ _ _ (λ before knows other. child-without_chunk _ before))

pub returns-in_err-read-in-512 : goal.returns-in_err-read-in-512
returns-in_err-read-in-512 c =
    let p = err_from_is_err_and c.from_residual-in_err-read-in-512.result c.from_residual-in_err-read-in-512.ensures.1 in
    rw (p.1, p.2, c.in_ok-chunk.was)
    (child-fails c.args.known.now _ _ _ _ _ _ _ (λ before knows other. package-fails c.args.known.now (chunk_of c.in_ok-chunk.chunk) before _ c.in-512.is (c.in_err-read-in-512.ensures other) knows))

pub returns-in_err-push-in-512 : goal.returns-in_err-push-in-512
returns-in_err-push-in-512 c =
    let p = err_from_is_err_and c.from_residual-in_err-push-in-512.result c.from_residual-in_err-push-in-512.ensures.1 in
    rw (p.1, p.2) (child-fails c.args.known.now _ _ _ _ _ _ _ (λ before knows other. absurd (other refl)))

pub returns-in_err-open_pool-in-1 : goal.returns-in_err-open_pool-in-1
returns-in_err-open_pool-in-1 c =
    let p = err_from_is_err_and c.from_residual-in_err-open_pool-in-1.result c.from_residual-in_err-open_pool-in-1.ensures.1 in
    rw (p.1, p.2, c.in_ok-chunk.was)
    (child-fails c.args.known.now _ _ _ _ _ _ _ (λ before knows other. pool-fails c.args.known.now (chunk_of c.in_ok-chunk.chunk) before _ c.in-1.is (c.is_none.ensures ∙ ap (λ (b : Bool). not b) c.if-is_none.true) c.in_err-open_pool-in-1.ensures knows))
