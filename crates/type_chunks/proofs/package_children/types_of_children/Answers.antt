use Rattle.std.proofs.Common.{sym, ◌∙◌, arith}
use Rattle.std.proofs.lemmas.Grind.{common_steps}
use Rattle.std.proofs.lemmas.List.Elements.{All-nil, All-rest}
use Rattle.std.proofs.lemmas.Result.{err_from_is_err_and}
use Rattle.contract_words.proofs.SequenceSteps.{with_front_nil, ReadsKnowing-none, ReadsKnowing-next, ReadsKnowing-stops, ReadsKnowing-end}
use Rattle.string_pool.specs.chunk_walk.Chunk.{chunk_of}
use Rattle.string_pool.specs.chunk_walk.Chunks.{StandsIn}
use Rattle.type_chunks.specs.KnownSpecs.{Knows}
use Rattle.type_chunks.specs.TypePlaces.{IsKept}
use Rattle.type_chunks.proofs.PlacesSteps.{rows_of_places-none, first-of}
use Rattle.type_chunks.proofs.package_children.types_of_children.Goals as goal

pub loop-found-init : goal.loop-found-init
loop-found-init c = record {
  can = tt;
  ends = tt;
  fits = rw (c.into_iter-found-iterator.ensures.into_iter_gives, c.new-places.ensures.items) (omega (arith, c.children-found-items.ensures.few));
  stand = rw c.into_iter-found-iterator.ensures.into_iter_gives c.children-found-items.ensures.stand;
  specs = c.new-specs.ensures.stand (chunk_of c.args.container.now);
  kept = rw c.new-places.ensures.items (All-nil (IsKept c.args.owner (chunk_of c.args.container.now)));
  read = rw (c.into_iter-found-iterator.ensures.into_iter_gives, c.children-found-items.ensures.chunks, c.new-places.ensures.items, rows_of_places-none c.args.owner (chunk_of c.args.container.now))
      (ReadsKnowing-none (λ specs before. Knows specs before) _ _ _ _ c.new-specs.ensures.known);
}

pub push_child-requires-clause-stands : goal.push_child-requires-clause-stands
push_child-requires-clause-stands c = first-of (StandsIn (chunk_of c.args.container.now)) _ _ _ c.in-Some.ensures.steps c.loop-found.invariant.stand

pub loop-found-preserved : goal.loop-found-preserved
loop-found-preserved c =
    let so_far = c.loop-found.invariant.read in
    record {
      can = tt;
      ends = tt;
      fits = grind (arith, common_steps, c.in-Some.ensures.steps, c.loop-found.invariant.fits, c.in_ok-push_child.ensures.one);
      stand = All-rest (StandsIn (chunk_of c.args.container.now)) _ _ _ c.in-Some.ensures.steps c.loop-found.invariant.stand;
      specs = c.in_ok-push_child.ensures.specs;
      kept = c.in_ok-push_child.ensures.kept;
      read = ReadsKnowing-next _ _ _ _ _ _ _ _ _ _ _ so_far c.in-Some.ensures.steps (c.in_ok-push_child.ensures.known so_far.before so_far.known) (c.in_ok-push_child.ensures.rows so_far.before so_far.known);
    }

pub returns-in_err-push_child : goal.returns-in_err-push_child
returns-in_err-push_child c =
    let so_far = c.loop-found.invariant.read in
    let p = err_from_is_err_and c.from_residual.result c.from_residual.ensures.1 in
    rw (p.1, p.2) (λ other. sym (with_front_nil _) ∙ ReadsKnowing-stops _ _ _ _ _ _ _ _ _ _ so_far c.in-Some.ensures.steps (c.in_err-push_child.ensures.rows so_far.before so_far.known other))

pub returns : goal.returns
returns c = sym (with_front_nil _) ∙ ReadsKnowing-end _ _ _ _ _ _ _ c.loop-found.invariant.read c.in-None.ensures.steps.0
