use Rattle.std.proofs.Common.{drop, map}
use Rattle.contract_words.proofs.TextSteps.{PutsAllBut}
use Rattle.resource_text.specs.cert_maker.res_value.Goal.{goal_seen}
use Rattle.resource_text.specs.declared.rejection.Rejection.{Rejection}
use Rattle.resource_tool.specs.CheckOutput.{goal_told_of}
use Rattle.resource_tool.proofs.verdict_told.write_goals_told.Given as goal

abbrev pub invariant-loop-rejection : goal.invariant-loop-rejection
invariant-loop-rejection g l =
    PutsAllBut (λ (rejection : Rejection). goal_told_of l.names.stack (map goal_seen l.goals) l.names.asked rejection.verdict) (g.W.Write.contents l.fn.out) (g.W.Write.contents l.out) l.rejections (drop l.rejection-index l.rejections)
