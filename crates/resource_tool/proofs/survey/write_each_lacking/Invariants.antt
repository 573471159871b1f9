use Rattle.std.proofs.Common.{drop}
use Rattle.contract_words.proofs.TextSteps.{PutsAllBut}
use Rattle.resource_tool.specs.Qualifiers.{rows_in_stack}
use Rattle.resource_tool.specs.BoxGaps.{lacks}
use Rattle.resource_tool.specs.OpenedSeen.{opened_survey}
use Rattle.resource_tool.specs.SurveyForm.{form_seen, lacking_in}
use Rattle.resource_tool.proofs.AnySteps.{FindsAllBut}
use Rattle.resource_tool.proofs.survey.write_each_lacking.Given as goal

-- the lines of all that are lacking were written but of those that are left, and whether there are some is that of those so far
abbrev pub invariant-loop-coord : goal.invariant-loop-coord
invariant-loop-coord g l = record {
  texts : PutsAllBut (λ k. lacking_in (form_seen l.form) (lacks (opened_survey l.opened).sets (rows_in_stack l.opened.stack) k) k) (g.W.Write.contents l.fn.out) (g.W.Write.contents l.out) l.coords (drop l.coord-index l.coords);
  some : FindsAllBut (lacks (opened_survey l.opened).sets (rows_in_stack l.opened.stack)) l.some l.coords (drop l.coord-index l.coords);
}
