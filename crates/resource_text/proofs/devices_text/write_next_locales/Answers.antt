use Rattle.std.proofs.Common.{List, ap, map, arith}
use Rattle.std.proofs.lemmas.List.{drop_more}
use Rattle.stack_diff.specs.config_box.config_record.locales.declared.locale.Locale.{Locale}
use Rattle.stack_diff.specs.config_box.config_record.locales.LocaleNumber.{locale_number}
use Rattle.contract_words.proofs.TextSteps.{PutsAllBut-next}
use Rattle.resource_text.proofs.devices_text.write_next_locales.Goals as goal

pub loop-locale-preserved : goal.loop-locale-preserved
loop-locale-preserved g c =
    PutsAllBut-next _ _ _ _ _ _ _ _ c.loop-locale.invariant
    (ap (λ (left : List Locale). map locale_number left) (drop_more c.args.locales.now c.loop-locale.locale-index _ (omega arith)))
    c.in_ok-write_next_locale.ensures
