use Rattle.config_record.proofs.SeparatorSteps.{ContinuesAllBut-next}
use Rattle.notation.specs.FormatsText.{format_of, set_word}
use Rattle.notation.proofs.formats.write_set_words.Goals as goal

pub loop-format-preserved : goal.loop-format-preserved
loop-format-preserved g c =
    ContinuesAllBut-next (λ format. set_word c.args.bits (format_of format)) _ _ _ _ _ _ c.args.formats.now c.loop-format.format-index _ c.loop-format.invariant c.loop-format-test.true c.in_ok-write_if_set.ensures
