use Rattle.std.proofs.Common.{◌≡◌, List, Bor, Vec, Global, map, rules, sym, ap, ◌∙◌}
use Rattle.std.specs.Option.{option_map}
use Rattle.overlay_map.specs.declared.table.Table.{Table}
use Rattle.overlay_map.specs.Table.{TableOf}
use Rattle.names.specs.IdsOfType.{ids_of_type}
use Rattle.res_value.specs.declared.res_id.ResId.{ResId}
use Rattle.names.proofs.TellsSteps.{known-more}
use Rattle.names.proofs.finder.Finder.ids_of_rows.Goals as goal

pub returns : goal.returns
returns c = λ layers names told.
    let shared : c.in_ok-clone.field-0.value ≡ c.in_ok-ids-2.ids.value = search rules in
    let walked =
    ap (λ (tables : List TableOf). ids_of_type (option_map (λ name. name.now) c.args.type_name) tables) (sym (ap (λ (tables : List (Bor Table)). map (λ table. table.now) tables) c.deref.ensures.value ∙ told.tables))
    ∙ sym c.in_ok-ids.ensures in
    let items = λ (ids : Vec ResId Global). ids.items in (
      record {
        tables = told.tables;
        packages = told.packages;
        found = told.found;
        known = known-more layers c.args.self.now.known c.insert.new.self c.args.type_name c.in_ok-clone.field-0 told.known c.in_ok-insert.ensures.updates.0 (walked ∙ ap items (sym (shared ∙ c.in_ok-ids-2.ensures.ok)));
      },
      sym (walked ∙ ap items (sym c.in_ok-ids-2.ensures.ok)),
    )
