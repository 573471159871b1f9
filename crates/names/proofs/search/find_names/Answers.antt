use Rattle.std.proofs.Common.{List, Option, [], map, ap, ◌∙◌}
use Rattle.std.proofs.lemmas.Result.{IfOk-weaker}
use Rattle.std.specs.Option.{option_map}
use Rattle.overlay_map.specs.res_value.declared.res_id.ResId.{ResId}
use Rattle.names.specs.declared.found.Found.{Found}
use Rattle.names.specs.declared.wanted.Wanted.{Wanted}
use Rattle.names.specs.Found.{found_among}
use Rattle.names.specs.FoundSoFar.{first_of}
use Rattle.names.specs.Names.{ids_with, wanted_of}
use Rattle.names.proofs.SoughtSteps.{first-all}
use Rattle.names.proofs.search.find_names.Goals as goal

pub returns : goal.returns
returns c =
    let tables = map (λ table. table.now) c.args.tables.now in
    IfOk-weaker c.first_of_each.result _ _ (λ first is.
    ap (λ (found : List (Option ResId)). map (option_map (λ id. id.0)) found)
    (is
    ∙ ap (λ (found : List Found). map first_of found) (c.deref-2.ensures.value ∙ c.in_ok-found.ensures)
    ∙ ap (λ (wanted : List Wanted). map first_of (map (λ one. found_among (ids_with [] tables (wanted_of one))) wanted)) (c.deref.ensures.value ∙ c.in_ok-wanted.ensures))
    ∙ first-all tables c.args.names.now)
    c.first_of_each.ensures
