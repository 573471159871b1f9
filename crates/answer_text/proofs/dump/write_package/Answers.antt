use Rattle.std.proofs.KnownBytes.{Appends-trans}
use Rattle.std.proofs.lemmas.Result.{on_ok_weaker}
use Rattle.answer_text.specs.DumpText.{package_text}
use Rattle.answer_text.proofs.dump.write_package.Goals as goal

pub returns : goal.returns
unfolding package_text
returns g c =
    let rows = rw c.rows.ensures at c.write_rows.ensures in on_ok_weaker c.write_rows.result (λ last. Appends-trans _ _ _ _ _ c.in_ok-write_package_line.ensures last) rows
