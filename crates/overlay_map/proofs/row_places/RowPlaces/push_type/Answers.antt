use Rattle.std.proofs.Common.{ℕ, List, ◌≡◌, ◌++◌, replicate, ap, subst, ◌∙◌, arith}
use Rattle.type_chunks.specs.Row.{RowOf, row_of}
use Rattle.type_chunks.specs.TypeRows.{rows_of_type}
use Rattle.overlay_map.specs.Places.{numbers_for}
use Rattle.overlay_map.proofs.PlaceSteps.{count_of, still-to-come}
use Rattle.overlay_map.proofs.row_places.RowPlaces.push_type.Goals as goal

pub loop-row-preserved : goal.loop-row-preserved
loop-row-preserved c =
    let so_far = c.loop-row.invariant in
    let steps = c.in-Some.ensures.steps in
    record {
      can = tt;
      ends = tt;
      linked = λ given. c.in_ok-push.ensures.linked (so_far.linked given);
      added = λ given id.
          still-to-come id c.in-Ok.number (row_of c.in-Some.row) c.next.new.self (numbers_for c.loop-row.self id) (numbers_for c.push.new.self id) (c.in_ok-push.ensures.added (so_far.linked given) id)
          ∙ subst (λ (left : List RowOf). replicate (count_of id left) c.in-Ok.number ++ numbers_for c.loop-row.self id ≡ replicate (count_of id (rows_of_type c.args.of.now)) c.in-Ok.number ++ numbers_for c.args.self.now id)
          steps (so_far.added given id);
    }

pub returns-clause-linked : goal.returns-clause-linked
returns-clause-linked c linked = c.loop-row.invariant.linked linked

pub returns-clause-added : goal.returns-clause-added
returns-clause-added c linked id =
    subst (λ (left : List RowOf). replicate (count_of id left) c.in-Ok.number ++ numbers_for c.loop-row.self id ≡ replicate (count_of id (rows_of_type c.args.of.now)) c.in-Ok.number ++ numbers_for c.args.self.now id)
    c.in-None.ensures.steps.0 (c.loop-row.invariant.added linked id)
    ∙ ap (λ (n : ℕ). replicate (count_of id (rows_of_type c.args.of.now)) n ++ numbers_for c.args.self.now id) (omega (arith, c.in-Ok.ensures))
