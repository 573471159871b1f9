use Rattle.std.proofs.lemmas.Result.{on_ok_weaker}
use Rattle.std.proofs.KnownBytes.{Appends-trans}
use Rattle.resource_tool.specs.CheckOutput.{check_text}
use Rattle.resource_tool.proofs.verdict_told.write_verdict.Goals as goal

pub returns : goal.returns
unfolding check_text
returns g c =
    let aside = rw c.rows_set_aside.ensures at c.set_aside_line.ensures in
    on_ok_weaker c.set_aside_line.result (λ last. Appends-trans _ _ _ _ _ c.in_ok-verdict_text.ensures last) aside
