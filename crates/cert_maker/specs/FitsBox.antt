-- What a node of a tree for a box says is within the limits of the format.
use Rattle.std.specs.Prelude.{List}
use Rattle.cert_checker.specs.config_record.locales.declared.locale_rule.LocaleRule.{LocaleRule}
use Rattle.cert_checker.specs.box_answers.NumberSet.{SetOf}
use Rattle.cert_checker.specs.config_box.ByRule.{IsByRule}
use Rattle.cert_checker.specs.cert_tree.Certificate.{NodeOf, NodeFits}

-- its locales are compared by the rule of the box
abbrev pub FitsBox : List SetOf → NodeOf → Type 0
FitsBox sets node = (rule : LocaleRule) → IsByRule rule sets → NodeFits rule node
