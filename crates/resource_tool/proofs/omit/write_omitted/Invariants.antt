use Rattle.std.proofs.Common.{drop, map}
use Rattle.contract_words.proofs.TextSteps.{PutsAllBut}
use Rattle.resource_text.specs.cert_maker.res_value.Goal.{goal_seen}
use Rattle.resource_tool.specs.OmitOutput.{omitted_text}
use Rattle.resource_tool.proofs.omit.write_omitted.Given as goal

abbrev pub invariant-loop-left_out : goal.invariant-loop-left_out
invariant-loop-left_out g l =
    PutsAllBut (omitted_text l.stack (map goal_seen l.goals)) (g.E.Write.contents l.fn.errors) (g.E.Write.contents l.errors) l.omitted (drop l.left_out-index l.omitted)
