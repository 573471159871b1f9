use Rattle.std.proofs.Common.{List, map, ap, ◌∙◌}
use Rattle.std.specs.Borrow.{Bor}
use Rattle.overlay_map.specs.Table.{TableOf}
use Rattle.overlay_map.specs.declared.table.Table.{Table}
use Rattle.names.specs.Shared.{shared_of}
use Rattle.names.proofs.NamedSteps.{has_labels, shared-noted}
use Rattle.names.proofs.named_stack.NamedStack.of.Goals as goal

pub invariant_of-result : goal.invariant_of-result
invariant_of-result c =
    let seen : List (Bor Table) → List TableOf = λ tables. map (λ table. table.now) tables in
    let tables = seen c.deref.result.now in
    let bases = ap seen c.deref.ensures.value ∙ c.in_ok-tables.ensures in (
      has_labels c.args.stack.now tables c.new-noted.result c.note_tables.new.noted c.in_ok-labels.labels bases c.new-noted.ensures c.in_ok-note_tables.ensures
          c.in_ok-labels.ensures.1 c.in_ok-labels.ensures.0,
      c.shared_in-shared.ensures.shared
          ∙ ap shared_of (shared-noted c.args.stack.now tables c.new-noted.result c.note_tables.new.noted bases c.new-noted.ensures c.in_ok-note_tables.ensures c.shared_in-shared.ensures.rising),
    )
