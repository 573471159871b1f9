use Rattle.std.proofs.Common.{List, ◌+◌, ap, arith, drop, map}
use Rattle.std.proofs.lemmas.List.{drop_all, drop_more}
use Rattle.contract_words.proofs.TextSteps.{PutsAllBut-done, PutsAllBut-end, PutsAllBut-next, PutsAllBut-next_at}
use Rattle.command_base.specs.AstraySeen.{astray_of}
use Rattle.command_base.specs.answer_text.type_chunks.Row.{row_of}
use Rattle.command_base.specs.overlay_map.IdMap.{IdPair, pairs_of}
use Rattle.resource_tool.specs.MapJson.{astray_json, pair_json, unmapped_json}
use Rattle.resource_tool.proofs.map.json.write_lines.Goals as goal

pub loop-pair-preserved : goal.loop-pair-preserved
loop-pair-preserved g c =
    let pairs = c.args.pairs.now in
    let i = c.loop-pair.pair-index in
    PutsAllBut-next (pair_json c.args.first.now.table.now) _ _ _ (pairs_of pairs) (pairs_of (drop i pairs)) (pairs_of (drop (i + 1) pairs)) _ c.loop-pair.invariant
    (ap (λ (t : List IdPair). pairs_of t) (drop_more pairs i _ (omega arith))) c.in_ok-write_pair.ensures

pub loop-row-preserved : goal.loop-row-preserved
loop-row-preserved g c =
    PutsAllBut-next_at row_of (unmapped_json c.args.first.now.table.now) _ _ _ (map row_of c.args.unmapped.now) c.args.unmapped.now c.loop-row.row-index _
    c.loop-row.invariant c.loop-row-test.true c.row-item.is c.in_ok-write_unmapped.ensures

pub loop-found-preserved : goal.loop-found-preserved
loop-found-preserved g c =
    PutsAllBut-next_at astray_of (astray_json c.args.first.now.table.now) _ _ _ (map astray_of c.args.astray.now) c.args.astray.now c.loop-found.found-index _
    c.loop-found.invariant c.loop-found-test.true c.found-item.is c.in_ok-write_astray.ensures

pub returns : goal.returns
returns g c =
    let found = PutsAllBut-done _ _ _ _ _ c.loop-found.invariant (ap (map astray_of) (drop_all c.loop-found.found-index c.args.astray.now c.loop-found-test.false)) in
    let rows = PutsAllBut-end _ _ _ _ _ _ _ c.loop-row.invariant (ap (map row_of) (drop_all c.loop-row.row-index c.args.unmapped.now c.loop-row-test.false)) found in
    PutsAllBut-end _ _ _ _ _ _ _ c.loop-pair.invariant (ap pairs_of (drop_all c.loop-pair.pair-index c.args.pairs.now c.loop-pair-test.false)) rows
