use Rattle.std.proofs.Common.{◌∙◌}
use Rattle.names.proofs.NotedSteps.{added}
use Rattle.names.proofs.noted.add_label.Goals as goal

pub returns-clause-added : goal.returns-clause-added
returns-clause-added c =
    added c.args.id c.unwrap_or-first.result c.args.label c.copied.result c.args.labels.now c.insert.new.self (c.copied.ensures ∙ c.get.ensures.value) c.unwrap_or-first.ensures c.in_ok-insert.ensures.updates.0
