use Rattle.std.proofs.KnownBytes.{Appends-trans}
use Rattle.std.proofs.lemmas.Result.{on_ok_weaker}
use Rattle.answer_text.specs.DumpText.{names_text}
use Rattle.answer_text.proofs.dump.write_names.Goals as goal

pub returns : goal.returns
unfolding names_text
returns g c =
    let first = rw c.type_name.ensures at c.in_ok-write.ensures in
    let last = rw c.key_name.ensures at c.write_string.ensures in
    let to_slash = Appends-trans _ _ _ _ _ first c.in_ok-write_all.ensures.bytes in
    on_ok_weaker c.write_string.result (λ behind. Appends-trans _ _ _ _ _ to_slash behind) last
