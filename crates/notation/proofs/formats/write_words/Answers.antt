use Rattle.config_record.proofs.SeparatorSteps.{Continues-trans, Continues-joined}
use Rattle.notation.specs.FormatsText.{choices}
use Rattle.notation.proofs.formats.write_words.Goals as goal

pub returns : goal.returns
unfolding choices
returns g c = Continues-joined _ _ _ _ _ (Continues-trans _ _ _ _ _ _ _ _ c.in_ok-write_types.ensures c.in_ok-write_set_words.ensures)
