use Rattle.std.proofs.KnownBytes.{Appends-trans}
use Rattle.std.proofs.lemmas.Result.{on_ok_weaker}
use Rattle.resource_text.specs.Columns.{column_text}
use Rattle.resource_text.proofs.columns.write_column.Goals as goal

pub returns : goal.returns
unfolding column_text
returns g c =
    let spaces = rw (c.saturating_sub.ensures, c.width_of.ensures) at c.in_ok-write_spaces.ensures in
    let to_end = Appends-trans _ _ _ _ _ c.in_ok-write_all.ensures.bytes spaces in
    on_ok_weaker c.write_all-2.result (λ last. Appends-trans _ _ _ _ _ to_end last) c.write_all-2.ensures.bytes
