use Rattle.std.proofs.Common.{◌≡◌, drop}
use Rattle.std.specs.List.{list_all}
use Rattle.command_base.specs.cert_tree.box_answers.NumberSet.{locale_numbers}
use Rattle.resource_tool.specs.Locales.{says_nothing}
use Rattle.resource_tool.proofs.survey.box_gaps.are_unknown.Given as goal

-- all of those that are left say nothing where all do
abbrev pub invariant-loop-locale : goal.invariant-loop-locale
invariant-loop-locale l = list_all says_nothing (locale_numbers (drop l.locale-index l.locales)) ≡ list_all says_nothing (locale_numbers l.locales)
