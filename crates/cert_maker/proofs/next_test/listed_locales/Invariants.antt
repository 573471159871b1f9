use Rattle.std.proofs.Common.{◌≡◌, filter, take}
use Rattle.std.specs.List.{All}
use Rattle.cert_checker.specs.config_record.DeviceSeen.{device_numbers}
use Rattle.cert_checker.specs.config_record.locales.declared.locale.Locale.{Locale}
use Rattle.cert_checker.specs.config_record.locales.LocaleNumber.{locale_number, locale_of_number}
use Rattle.cert_checker.specs.box_trace.Parting.{answer_of}
use Rattle.cert_maker.specs.Listed.{answer_in}
use Rattle.cert_maker.proofs.next_test.listed_locales.Given as goal

abbrev pub invariant-loop-locale : goal.invariant-loop-locale
invariant-loop-locale l = record {
  listed : l.listed.items ≡ filter (answer_in (answer_of l.parting) (device_numbers l.parting.pair.yes)) (take l.locale-index l.locales);
  back : All (λ (locale : Locale). locale_of_number (locale_number locale) ≡ locale) l.listed.items;
}
