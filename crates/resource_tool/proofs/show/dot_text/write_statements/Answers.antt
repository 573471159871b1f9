use Rattle.std.proofs.KnownBytes.{Appends-trans}
use Rattle.std.proofs.lemmas.Result.{on_ok_weaker}
use Rattle.resource_tool.specs.DotText.{statements_with}
use Rattle.resource_tool.proofs.show.dot_text.write_statements.Goals as goal

pub returns : goal.returns
unfolding statements_with
returns g c =
    let to_name = Appends-trans _ _ _ _ _ c.in_ok-write_all.ensures.bytes c.in_ok-write_name.ensures in
    let to_mark = Appends-trans _ _ _ _ _ to_name c.in_ok-write_all-2.ensures.bytes in
    let to_label = Appends-trans _ _ _ _ _ to_mark c.in_ok-write_cut_label.ensures in
    let to_end = Appends-trans _ _ _ _ _ to_label c.in_ok-write_all-3.ensures.bytes in
    on_ok_weaker c.write_arrow.result (λ last. Appends-trans _ _ _ _ _ to_end last) c.write_arrow.ensures
