use Rattle.std.proofs.Common.{drop, map}
use Rattle.stack_diff.specs.config_box.config_record.locales.LocaleNumber.{locale_number}
use Rattle.contract_words.proofs.TextSteps.{PutsAllBut}
use Rattle.resource_text.specs.DevicesText.{next_value, locale_value}
use Rattle.resource_text.proofs.devices_text.write_next_locales.Given as goal

abbrev pub invariant-loop-locale : goal.invariant-loop-locale
invariant-loop-locale g l =
    PutsAllBut (next_value locale_value) (g.W.Write.contents l.fn.out) (g.W.Write.contents l.out) (map locale_number l.locales) (map locale_number (drop l.locale-index l.locales))
