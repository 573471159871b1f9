use Rattle.std.proofs.lemmas.Result.{on_ok_weaker}
use Rattle.std.proofs.KnownBytes.{Appends-trans}
use Rattle.answer_text.specs.DumpText.{names_text}
use Rattle.command_base.specs.MapText.{named_text}
use Rattle.command_base.proofs.map_text.write_named.Goals as goal

pub returns : goal.returns
unfolding named_text names_text
returns g c =
    let to_space = Appends-trans _ _ _ _ _ c.in_ok-write_id.ensures.text c.in_ok-write_all.ensures.bytes in
    let to_slash = Appends-trans _ _ _ _ _ (rw c.type_name.ensures at c.in_ok-write_string.ensures) c.in_ok-write_all-2.ensures.bytes in
    on_ok_weaker c.write_string-2.result (λ last. Appends-trans _ _ _ _ _ to_space (Appends-trans _ _ _ _ _ to_slash last)) (rw c.key_name.ensures at c.write_string-2.ensures)
