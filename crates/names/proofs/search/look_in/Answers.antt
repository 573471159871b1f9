use Rattle.std.proofs.Common.{ℕ, List, map, subst, sym, ap, ◌∙◌}
use Rattle.overlay_map.specs.type_chunks.Row.{RowOf, row_of}
use Rattle.names.specs.declared.sought.Sought.{Sought}
use Rattle.names.specs.Sought.{noted_each, entry_names, ArePlacesOf}
use Rattle.names.proofs.SoughtSteps.{entry_names-noted, map-noted_each-next, map-noted_each-none}
use Rattle.names.proofs.search.look_in.Goals as goal

pub loop-row-preserved : goal.loop-row-preserved
loop-row-preserved c =
    let so_far = c.loop-row.invariant in
    let table = c.args.table.now in
    let row = row_of c.in-Some.row in
    let sought = c.loop-row.sought in
    record {
      can = tt;
      ends = tt;
      places = subst (λ (names : List (List ℕ)). ArePlacesOf c.args.places.now names) (sym (ap (λ (s : List Sought). entry_names s) c.in_ok-pass_row.ensures.0 ∙ entry_names-noted table row sought)) so_far.places;
      passed = c.in_ok-pass_row.ensures.1;
      noted =
          ap (λ (s : List Sought). map (noted_each table c.next.new.self) s) c.in_ok-pass_row.ensures.0 ∙ map-noted_each-next table row c.next.new.self sought
          ∙ ap (λ (rows : List RowOf). map (noted_each table rows) sought) (sym c.in-Some.ensures.steps) ∙ so_far.noted;
    }

pub returns : goal.returns
returns c =
    sym (map-noted_each-none c.args.table.now c.loop-row.sought)
    ∙ ap (λ (rows : List RowOf). map (noted_each c.args.table.now rows) c.loop-row.sought) (sym c.in-None.ensures.steps.0) ∙ c.loop-row.invariant.noted
