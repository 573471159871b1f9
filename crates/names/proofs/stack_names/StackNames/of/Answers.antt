use Rattle.std.proofs.Common.{List, None, map, ap, ◌∙◌}
use Rattle.std.specs.Borrow.{Bor}
use Rattle.overlay_map.specs.Table.{TableOf}
use Rattle.overlay_map.specs.declared.table.Table.{Table}
use Rattle.names.specs.IdsOfType.{ids_of_type}
use Rattle.names.specs.Packages.{packages_in}
use Rattle.names.proofs.IdWordSteps.{all-words}
use Rattle.names.proofs.stack_names.StackNames.of.Goals as goal

pub invariant_of-result : goal.invariant_of-result
invariant_of-result c =
    let seen : List (Bor Table) → List TableOf = λ tables. map (λ table. table.now) tables in
    let ids = c.deref-3.ensures.value ∙ c.in_ok-ids.ensures ∙ ap (ids_of_type None) (ap seen c.deref.ensures.value ∙ c.in_ok-tables.ensures) in
    let packages = c.in_ok-packages.ensures ∙ ap packages_in (ap seen c.deref-2.ensures.value ∙ c.in_ok-tables.ensures) in
    all-words c.args.stack.now c.in_ok-packages.packages c.deref-3.result.now c.in_ok-words.words packages ids c.in_ok-words.ensures
