use Rattle.std.proofs.Common.{ap, map}
use Rattle.std.proofs.lemmas.List.{drop_all}
use Rattle.contract_words.proofs.TextSteps.{PutsAllBut-done, PutsAllBut-end, PutsAllBut-next_at}
use Rattle.command_base.specs.answer_text.type_chunks.Row.{row_of}
use Rattle.command_base.specs.AstraySeen.{astray_of}
use Rattle.command_base.specs.MapText.{astray_line, unmapped_line}
use Rattle.command_base.proofs.map_text.write_left.Goals as goal

pub loop-row-preserved : goal.loop-row-preserved
loop-row-preserved g c =
    PutsAllBut-next_at row_of (unmapped_line c.args.before.now c.args.overlay.now) _ _ _ (map row_of c.args.unmapped.now) c.args.unmapped.now c.loop-row.row-index _
    c.loop-row.invariant c.loop-row-test.true c.row-item.is c.in_ok-write_unmapped.ensures

pub loop-found-preserved : goal.loop-found-preserved
loop-found-preserved g c =
    PutsAllBut-next_at astray_of (astray_line c.args.before.now c.args.overlay.now) _ _ _ (map astray_of c.args.astray.now) c.args.astray.now c.loop-found.found-index _
    c.loop-found.invariant c.loop-found-test.true c.found-item.is c.in_ok-write_astray.ensures

pub returns : goal.returns
returns g c =
    let lines = PutsAllBut-done _ _ _ _ _ c.loop-found.invariant (ap (map astray_of) (drop_all c.loop-found.found-index c.args.astray.now c.loop-found-test.false)) in
    PutsAllBut-end _ _ _ _ _ _ _ c.loop-row.invariant (ap (map row_of) (drop_all c.loop-row.row-index c.args.unmapped.now c.loop-row-test.false)) lines
