use Rattle.std.proofs.Common.{drop}
use Rattle.contract_words.proofs.TextSteps.{PutsAllBut}
use Rattle.resource_tool.specs.Counting.{spread_in}
use Rattle.resource_tool.specs.SurveyForm.{form_seen, qualifier_in}
use Rattle.resource_tool.proofs.survey.write_each_line.Given as goal

-- the lines of all qualifiers were written but of those that are left
abbrev pub invariant-loop-coord : goal.invariant-loop-coord
invariant-loop-coord g l =
    PutsAllBut (λ k. qualifier_in (form_seen l.form) k (spread_in l.qualifiers k)) (g.W.Write.contents l.fn.out) (g.W.Write.contents l.out) l.coords (drop l.coord-index l.coords)
