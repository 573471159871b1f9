use Rattle.std.proofs.Common.{ℕ, List, subst}
use Rattle.std.specs.Io.KnownBytes.{Appends}
use Rattle.resource_tool.specs.Judged.{told_of}
use Rattle.resource_tool.specs.JsonLines.{lines_of_name, lines_of_pair, lines_of_names}
use Rattle.resource_tool.proofs.PairSteps.{pair-next_at, pairs-end_at, told-end_at}
use Rattle.resource_tool.proofs.json_lines.write_names.Goals as goal

pub loop-place-preserved : goal.loop-place-preserved
loop-place-preserved g c =
    let there = c.in-Some.ensures.lookup in
    pair-next_at (λ name. name.items) (lines_of_pair _) _ _ _ c.args.names.now c.args.told.now c.loop-place.place c.index-names-place.result c.in-Some.one.now c.loop-place.invariant
    c.loop-place-test.true c.index-names-place.is there.3.0 there.1
    (subst (λ (name : List ℕ). Appends (g.W.Write.contents c.loop-place.out) (g.W.Write.contents c.write_told.new.out) (lines_of_name c.args.begin.now name (told_of c.in-Some.one.now)))
    c.deref.ensures.value c.in_ok-write_told.ensures)

pub returns-in_default : goal.returns-in_default
unfolding lines_of_names
returns-in_default g c = told-end_at (λ name. name.items) (lines_of_pair _) _ _ c.args.names.now c.args.told.now c.loop-place.place c.loop-place.invariant c.in_default.ensures.lookup.0

pub returns : goal.returns
unfolding lines_of_names
returns g c = pairs-end_at (λ name. name.items) (lines_of_pair _) _ _ c.args.names.now c.args.told.now c.loop-place.place c.loop-place.invariant c.loop-place-test.false
