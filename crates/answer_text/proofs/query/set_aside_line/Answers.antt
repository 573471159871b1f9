use Rattle.std.proofs.KnownBytes.{Appends-trans}
use Rattle.std.proofs.lemmas.Result.{on_ok_weaker}
use Rattle.answer_text.specs.NamedText.{named_number}
use Rattle.answer_text.specs.QueryText.{set_aside_line}
use Rattle.answer_text.proofs.query.set_aside_line.Goals as goal

pub returns : goal.returns
unfolding set_aside_line named_number
returns g c = on_ok_weaker c.write_all.result (λ last. Appends-trans _ _ _ _ _ c.in_ok-write_named_number.ensures last) c.write_all.ensures.bytes
