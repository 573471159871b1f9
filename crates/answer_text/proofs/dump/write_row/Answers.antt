use Rattle.std.proofs.Common.{OnOk, subst}
use Rattle.std.proofs.KnownBytes.{Appends-trans}
use Rattle.std.proofs.lemmas.Result.{on_ok_weaker}
use Rattle.std.specs.Io.KnownBytes.{Appends}
use Rattle.bags_themes.specs.string_pool.Pool.{PoolOf}
use Rattle.bags_themes.specs.type_chunks.Row.{row_of}
use Rattle.answer_text.specs.CellText.{row_end_text}
use Rattle.answer_text.specs.DumpText.{dump_format, row_text}
use Rattle.answer_text.proofs.dump.write_row.Goals as goal

pub returns : goal.returns
unfolding row_text dump_format
returns g c =
    let contents = g.W.Write.contents in
    let end =
    subst (λ (strings : PoolOf). OnOk c.write_row_end.result (Appends (contents c.write_all-3.new.self) (contents c.write_row_end.new.out) (row_end_text (dump_format strings) (row_of c.args.row.now))))
    c.strings.ensures c.write_row_end.ensures in
    let to_id = Appends-trans _ _ _ _ _ c.in_ok-write_all.ensures.bytes c.in_ok-write_id.ensures.text in
    let to_space = Appends-trans _ _ _ _ _ to_id c.in_ok-write_all-2.ensures.bytes in
    let to_names = Appends-trans _ _ _ _ _ to_space c.in_ok-write_names.ensures in
    let to_flags = Appends-trans _ _ _ _ _ to_names c.in_ok-write_flags.ensures in
    let to_end = Appends-trans _ _ _ _ _ to_flags c.in_ok-write_all-3.ensures.bytes in
    on_ok_weaker c.write_row_end.result (λ last. Appends-trans _ _ _ _ _ to_end last) end
