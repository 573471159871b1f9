use Rattle.std.proofs.KnownBytes.{Appends-trans}
use Rattle.std.proofs.lemmas.Result.{on_ok_weaker}
use Rattle.resource_text.specs.TableNotation.{dump_row_notation}
use Rattle.resource_text.proofs.dump.write_row.Goals as goal

pub returns : goal.returns
unfolding dump_row_notation
returns g c =
    let name = rw c.requires at c.in_ok-write_its_name.ensures in
    let to_id = Appends-trans _ _ _ _ _ c.in_ok-write_all.ensures.bytes c.in_ok-write_id.ensures.text in
    let to_name = Appends-trans _ _ _ _ _ to_id name in
    let to_flags = Appends-trans _ _ _ _ _ to_name c.in_ok-write_flags.ensures in
    let to_space = Appends-trans _ _ _ _ _ to_flags c.in_ok-write_all-2.ensures.bytes in
    on_ok_weaker c.write_row_end.result (λ last. Appends-trans _ _ _ _ _ to_space last) c.write_row_end.ensures
