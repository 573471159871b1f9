use Rattle.std.proofs.KnownBytes.{Appends-trans}
use Rattle.std.proofs.lemmas.Result.{on_ok_weaker}
use Rattle.resource_tool.specs.LineParts.{front_text}
use Rattle.resource_tool.proofs.show.line_text.write_front.Goals as goal

pub returns-in_ok-write_path-in-NodeAt : goal.returns-in_ok-write_path-in-NodeAt
unfolding front_text
returns-in_ok-write_path-in-NodeAt g c =
    let to_path = Appends-trans _ _ _ _ _ c.in_ok-write-in-NodeAt.ensures.bytes c.in_ok-write_path-in-NodeAt.ensures in
    rw c.in-NodeAt.is (on_ok_weaker c.write_if.result (λ last. Appends-trans _ _ _ _ _ to_path last) c.write_if.ensures)

pub returns-in_ok-write-in-Unreached : goal.returns-in_ok-write-in-Unreached
unfolding front_text
returns-in_ok-write-in-Unreached g c =
    rw c.in-Unreached.is (on_ok_weaker c.write_if-in-Unreached.result (λ last. Appends-trans _ _ _ _ _ c.in_ok-write-in-Unreached.ensures.bytes last) c.write_if-in-Unreached.ensures)

pub returns-in_ok-write_all-in-Missing : goal.returns-in_ok-write_all-in-Missing
unfolding front_text
returns-in_ok-write_all-in-Missing g c =
    rw c.in-Missing.is (on_ok_weaker c.write_path-in-Missing.result (λ last. Appends-trans _ _ _ _ _ c.in_ok-write_all-in-Missing.ensures.bytes last) c.write_path-in-Missing.ensures)
