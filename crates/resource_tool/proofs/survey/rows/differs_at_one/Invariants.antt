use Rattle.std.proofs.Common.{◌≡◌, drop}
use Rattle.std.specs.List.{list_any}
use Rattle.command_base.specs.cert_tree.box_answers.NumberSet.{locale_numbers}
use Rattle.resource_tool.specs.Locales.{differs_at}
use Rattle.resource_tool.proofs.survey.rows.differs_at_one.Given as goal

-- the row differs at one of the locales that are left where it does at one of all
abbrev pub invariant-loop-locale : goal.invariant-loop-locale
invariant-loop-locale l = list_any (differs_at l.row_locale l.set_aside) (locale_numbers (drop l.locale-index l.locales)) ≡ list_any (differs_at l.row_locale l.set_aside) (locale_numbers l.locales)
