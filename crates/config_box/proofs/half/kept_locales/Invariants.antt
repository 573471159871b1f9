use Rattle.std.proofs.Common.{◌≡◌, filter, take}
use Rattle.box_answers.specs.config_record.locales.LocaleNumber.{locale_number}
use Rattle.config_box.specs.Tests.{test_of}
use Rattle.config_box.specs.HalfSets.{gives}
use Rattle.config_box.proofs.half.kept_locales.Given as goal

abbrev pub invariant-loop-locale : goal.invariant-loop-locale
invariant-loop-locale l = l.kept.items ≡ filter (λ locale. gives (test_of l.test) l.answer (locale_number locale)) (take l.locale-index l.locales)
