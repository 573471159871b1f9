use Rattle.std.proofs.Common.{◌+◌, ◌∷◌, ℕ, List, map, drop, subst, sym, ap, ◌∙◌}
use Rattle.std.proofs.lemmas.List.{drop_more, drop_all}
use Rattle.overlay_map.specs.Table.{rows_of}
use Rattle.names.specs.declared.sought.Sought.{Sought}
use Rattle.names.specs.Sought.{entry_names, noted_in, ArePlacesOf}
use Rattle.names.proofs.SoughtSteps.{entry_names-noted_each, map-noted_in-next, map-noted_in-none}
use Rattle.names.proofs.search.look_in_each.Goals as goal

pub loop-table-preserved : goal.loop-table-preserved
loop-table-preserved c =
    let so_far = c.loop-table.invariant in
    let tables = c.args.tables.now in
    let count = c.loop-table.table-index in
    let table = c.table-item.result in
    let sought = c.loop-table.sought in
    let behind = map (λ table. table.now) (drop (count + 1) tables) in
    let here = drop_more tables count table c.loop-table-test.true ∙ ap (λ first. first ∷ drop (count + 1) tables) (sym c.table-item.is) in
    record {
      places = subst (λ (names : List (List ℕ)). ArePlacesOf c.args.places.now names) (sym (ap (λ (s : List Sought). entry_names s) c.in_ok-look_in.ensures ∙ entry_names-noted_each table.now (rows_of table.now) sought)) so_far.places;
      noted =
          ap (λ (s : List Sought). map (noted_in behind) s) c.in_ok-look_in.ensures ∙ map-noted_in-next table.now behind sought
          ∙ ap (λ left. map (noted_in (map (λ table. table.now) left)) sought) (sym here) ∙ so_far.noted;
    }

pub returns : goal.returns
returns c =
    sym (map-noted_in-none c.loop-table.sought)
    ∙ ap (λ left. map (noted_in (map (λ table. table.now) left)) c.loop-table.sought) (sym (drop_all c.loop-table.table-index c.args.tables.now c.loop-table-test.false))
    ∙ c.loop-table.invariant.noted
