use Rattle.std.proofs.Common.{refl}
use Rattle.cert_checker.specs.FirstFault.{goal_trace}
use Rattle.cert_checker.proofs.HeadlineSteps.{rules_end}
use Rattle.cert_checker.proofs.laws.traces_end_by_rules.Goals as goal

pub returns : goal.returns
returns c = λ stack goal d. rules_end stack goal d (goal_trace stack goal d).end refl
