use Rattle.std.proofs.Common.{sym, ◌∙◌}
use Rattle.std.proofs.lemmas.List.Sums.{fold_more}
use Rattle.config_box.specs.config_record.Record.{coordinate, record_bytes}
use Rattle.resource_text.specs.ConfigJson.{with_number_of}
use Rattle.resource_text.proofs.config_json.put_numbers.Goals as goal

pub loop-coord-preserved : goal.loop-coord-preserved
loop-coord-preserved c =
    let put = rw (c.loop-coord.invariant, c.get.ensures.value) at c.in_ok-put_number.ensures in
    put ∙ sym (fold_more (with_number_of (coordinate (record_bytes c.args.config.now))) _ c.args.coords.now c.loop-coord.coord-index _ c.loop-coord-test.true)
