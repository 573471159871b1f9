use Rattle.std.proofs.lemmas.Result.{on_ok_weaker}
use Rattle.std.proofs.KnownBytes.{Appends-trans}
use Rattle.resource_tool.proofs.query.write_notation.Goals as goal

pub returns : goal.returns
returns g c =
    let aside = rw (c.rows_set_aside.ensures, c.of-rule.ensures, c.locale.ensures.value) at c.set_aside_line.ensures in
    on_ok_weaker c.set_aside_line.result (λ last. Appends-trans _ _ _ _ _ c.in_ok-write_all.ensures.bytes last) aside
