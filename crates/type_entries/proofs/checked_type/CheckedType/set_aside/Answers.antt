use Rattle.std.proofs.Common.{rules, ◌≡◌, true, List, sym, ◌∙◌}
use Rattle.std.proofs.lemmas.Iterator.Consumers.{YieldsList-from_first, count_from_yields_List}
use Rattle.config_record.specs.Record.{record_bytes, is_set_aside}
use Rattle.type_entries.specs.Row.{RowOf, row_of}
use Rattle.type_entries.specs.TypeRows.{rows_of_type}
use Rattle.type_entries.proofs.TypeRowsSteps.{all_aside}
use Rattle.type_entries.proofs.checked_type.CheckedType.set_aside.Goals as goal

pub returns : goal.returns
returns c =
    let aside : is_set_aside (record_bytes c.args.self.now.chunk.config) ≡ true = search rules in
    let counted = count_from_yields_List c.rows.result c.count.result c.count.ensures.ran (YieldsList-from_first row_of (λ (rows : List RowOf). rows) (rows_of_type c.args.self.now) c.rows.ensures) in
    counted ∙ sym (all_aside c.args.self.now aside)
