use Rattle.std.proofs.Common.{[]}
use Rattle.std.specs.Prelude.{Some}
use Rattle.contract_words.proofs.TextSteps.{PutsAllBut}
use Rattle.resource_tool.specs.TreeText.{goal_text}
use Rattle.resource_tool.proofs.GoalSteps.{goals_from}
use Rattle.resource_tool.proofs.show.certificate_text.Given as goal

-- the texts of all goals were pushed but of those that are left
abbrev pub invariant-loop-number : goal.invariant-loop-number
invariant-loop-number l = PutsAllBut (goal_text l.form l.stack) (Some []) (Some l.text.items) (goals_from 0 l.goals) (goals_from l.number l.goals)
