use Rattle.std.proofs.Common.{List, Bor, map, ap, ◌∙◌}
use Rattle.overlay_map.specs.declared.table.Table.{Table}
use Rattle.names.specs.Packages.{package_name_of, packages_in}
use Rattle.names.specs.declared.packages.PackageName.{PackageName}
use Rattle.names.proofs.TellsSteps.{found-told, known-none}
use Rattle.names.proofs.finder.Finder.new.Goals as goal

pub returns : goal.returns
returns c =
    let packages = c.packages.view_is ∙ c.in_ok-packages.ensures ∙ ap (λ (tables : List (Bor Table)). packages_in (map (λ table. table.now) tables)) c.deref.ensures.value ∙ ap packages_in c.in_ok-tables.ensures in
    record {
      tables = c.in_ok-tables.ensures;
      packages = packages;
      found = c.into_iter-found.ensures.rest
          ∙ found-told c.args.stack.now _ _ c.args.names.now _ (ap (λ (tables : List (Bor Table)). map (λ table. table.now) tables) c.deref-3.ensures.value ∙ c.in_ok-tables.ensures)
          (ap (λ (all : List PackageName). map package_name_of all) c.deref-2.ensures.value ∙ packages) c.in_ok-find_each.ensures;
      known = known-none c.args.stack.now c.new.result c.new.ensures.empty;
    }
