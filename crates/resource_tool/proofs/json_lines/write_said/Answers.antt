use Rattle.std.proofs.KnownBytes.{Appends-trans}
use Rattle.std.proofs.lemmas.Result.{on_ok_weaker}
use Rattle.resource_tool.specs.JsonLines.{said_line}
use Rattle.resource_tool.proofs.json_lines.write_said.Goals as goal

pub returns : goal.returns
unfolding said_line
returns g c =
    let to_name = Appends-trans _ _ _ _ _ c.in_ok-write_all.ensures.bytes c.in_ok-write_all-2.ensures.bytes in
    let to_says = Appends-trans _ _ _ _ _ to_name c.in_ok-write_all-3.ensures.bytes in
    let to_said = Appends-trans _ _ _ _ _ to_says c.in_ok-write_all-4.ensures.bytes in
    on_ok_weaker c.write_all-5.result (λ last. Appends-trans _ _ _ _ _ to_said last) c.write_all-5.ensures.bytes
