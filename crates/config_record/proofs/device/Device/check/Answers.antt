use Rattle.config_record.proofs.DeviceLemmas.{device-asked, device-locale_asked, device-some_text, device-not_refused}
use Rattle.locales.proofs.GivenLemmas.{plain_is_given}
use Rattle.config_record.proofs.device.Device.check.Goals as goal

pub with-requires : goal.with-requires
with-requires c = plain_is_given c.checked.result c.checked.ensures.given

pub returns-clause-numbers : goal.returns-clause-numbers
returns-clause-numbers c = device-asked _ _ c.with.result c.with.ensures

pub returns-clause-locale : goal.returns-clause-locale
returns-clause-locale c = device-locale_asked _ _ _ c.with.result c.with.ensures c.checked.ensures.value c.checked.ensures.numbered

pub returns-clause-some_text : goal.returns-clause-some_text
returns-clause-some_text c = device-some_text _ _ _ c.with.result c.with.ensures c.checked.ensures.value c.checked.ensures.numbered c.checked.ensures.given

pub returns-clause-not_refused : goal.returns-clause-not_refused
returns-clause-not_refused c = device-not_refused _ _ _ c.with.result c.with.ensures c.checked.ensures.value
