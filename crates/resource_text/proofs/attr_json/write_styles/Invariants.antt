use Rattle.std.proofs.Common.{drop}
use Rattle.contract_words.proofs.TextSteps.{PutsAllBut}
use Rattle.resource_text.specs.AttrJson.{style_json}
use Rattle.resource_text.proofs.attr_json.write_styles.Given as goal

-- the lines of all styles were written but of those that are left
abbrev pub invariant-loop-step : goal.invariant-loop-step
invariant-loop-step g l =
    PutsAllBut (style_json l.naming) (g.W.Write.contents l.fn.out) (g.W.Write.contents l.out) l.steps (drop l.step-index l.steps)
