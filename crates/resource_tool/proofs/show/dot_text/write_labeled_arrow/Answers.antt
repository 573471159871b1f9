use Rattle.std.proofs.Common.{ℕ, List, ◌++◌, codes}
use Rattle.std.proofs.KnownBytes.{Appends-trans}
use Rattle.std.proofs.lemmas.Result.{on_ok_weaker}
use Rattle.std.specs.Fmt.{decimal}
use Rattle.resource_tool.specs.TreeLinesSeen.{line_of}
use Rattle.resource_tool.specs.DotText.{line_name}
use Rattle.resource_tool.proofs.show.dot_text.write_labeled_arrow.Goals as goal

pub returns : goal.returns
returns g c =
    let front : List ℕ = codes "  n" ++ decimal c.args.test ++ codes " -> " in
    let name = line_name (line_of c.args.line.now) in
    let to_name = Appends-trans _ _ _ front name c.in_ok-write.ensures.bytes c.in_ok-write_name.ensures in
    on_ok_weaker c.write_all.result (λ last. Appends-trans _ _ _ _ _ to_name last) c.write_all.ensures.bytes
