use Rattle.std.proofs.Common.{ℕ, List, subst}
use Rattle.std.proofs.KnownBytes.{Appends-trans}
use Rattle.std.proofs.lemmas.Result.{on_ok_weaker}
use Rattle.std.specs.Io.KnownBytes.{Appends}
use Rattle.resource_tool.specs.TreeLinesSeen.{line_of}
use Rattle.resource_tool.proofs.LinePartSteps.{line-parts}
use Rattle.resource_tool.proofs.show.line_text.write_line.Goals as goal

pub returns : goal.returns
returns g c =
    let old = g.W.Write.contents c.args.out.now in
    let new = g.W.Write.contents c.write_all.new.self in
    let to_shown = Appends-trans _ _ _ _ _ c.in_ok-write_front.ensures c.in_ok-write_shown.ensures in
    let same = line-parts c.args.form c.args.stack.now (line_of c.args.line.now) in
    on_ok_weaker c.write_all.result (λ last. subst (λ (text : List ℕ). Appends old new text) same (Appends-trans _ _ _ _ _ to_shown last)) c.write_all.ensures.bytes
