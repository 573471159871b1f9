use Rattle.std.proofs.KnownBytes.{Appends-trans}
use Rattle.std.proofs.lemmas.Result.{on_ok_weaker}
use Rattle.answer_text.specs.DumpText.{package_line}
use Rattle.answer_text.proofs.dump.write_package_line.Goals as goal

pub returns : goal.returns
unfolding package_line
returns g c =
    let number = rw c.id.ensures at c.in_ok-write_hex.ensures in
    let name = rw c.name.ensures at c.in_ok-write_shown.ensures in
    let to_number = Appends-trans _ _ _ _ _ c.in_ok-write_all.ensures.bytes number in
    let to_space = Appends-trans _ _ _ _ _ to_number c.in_ok-write_all-2.ensures.bytes in
    let to_name = Appends-trans _ _ _ _ _ to_space name in
    on_ok_weaker c.write_all-3.result (λ last. Appends-trans _ _ _ _ _ to_name last) c.write_all-3.ensures.bytes
