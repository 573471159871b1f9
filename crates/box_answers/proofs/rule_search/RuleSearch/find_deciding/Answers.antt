use Rattle.std.proofs.Common.{sym, ◌∙◌}
use Rattle.config_precedence.specs.config_record.declared.device.Device.{Device}
use Rattle.box_answers.proofs.SearchSteps.{some_by}
use Rattle.box_answers.proofs.rule_search.RuleSearch.find_deciding.Goals as goal

pub returns-else-is_pass-clause-found : goal.returns-else-is_pass-clause-found
returns-else-is_pass-clause-found c =
    some_by c.find.result c.find.ensures.found (λ (device : Device). λ found. (found, sym c.is_pass.ensures ∙ c.if-is_pass.false))
