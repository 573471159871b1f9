use Rattle.std.proofs.Common.{ℕ, ◌+◌, Result, Err, refl, sym, ap, subst, ◌∙◌}
use Rattle.std.specs.Prelude.{IsOk}
use Rattle.res_value.specs.Cell.{CellOf}
use Rattle.type_entries.specs.declared.fault.TableFault.{TableFault}
use Rattle.type_entries.specs.declared.fault.TableFault.TheVariants as faults
use Rattle.type_entries.specs.TypeChunk.{type_chunk_of}
use Rattle.res_value.specs.declared.map_rows.MapRowsFault.{MapRowsFault}
use Rattle.type_entries.specs.Entry.{bag_of_rows}
use Rattle.type_entries.proofs.EntrySteps.{bag-read}
use Rattle.type_entries.proofs.type_chunk.TypeChunk.check_bag.Goals as goal

pub returns-in-Err-ValueSize-clause-checked : goal.returns-in-Err-ValueSize-clause-checked
returns-in-Err-ValueSize-clause-checked c =
    let told : MapRowsFault → Result CellOf TableFault = λ fault. bag_of_rows (type_chunk_of c.args.self.now) c.args.at c.args.behind (Err fault) in
    let fault : ℕ → Result CellOf TableFault = λ n. Err (faults.Value (c.args.self.now.place + (c.args.behind + n))) in
    bag-read (type_chunk_of c.args.self.now) c.args.at c.args.behind _ _ c.u32_within-count.ensures c.in-Err-ValueSize.ensures
    ∙ ap told c.in-Err-ValueSize.field-0-is
    ∙ ap fault (sym c.value_place.ensures)

pub returns-in-Err-Short-clause-checked : goal.returns-in-Err-Short-clause-checked
returns-in-Err-Short-clause-checked c =
    let told : MapRowsFault → Result CellOf TableFault = λ fault. bag_of_rows (type_chunk_of c.args.self.now) c.args.at c.args.behind (Err fault) in
    bag-read (type_chunk_of c.args.self.now) c.args.at c.args.behind _ _ c.u32_within-count.ensures c.in-Err-Short.ensures ∙ ap told c.in-Err-Short.field-0-is

pub returns-in-Ok-clause-checked : goal.returns-in-Ok-clause-checked
returns-in-Ok-clause-checked c =
    let read = bag-read (type_chunk_of c.args.self.now) c.args.at c.args.behind _ _ c.u32_within-count.ensures c.in-Ok.ensures in
    subst (λ (cell : Result CellOf TableFault). IsOk cell) (sym read) refl
