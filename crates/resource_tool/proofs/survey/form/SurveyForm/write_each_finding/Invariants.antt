use Rattle.std.proofs.Common.{drop}
use Rattle.contract_words.proofs.TextSteps.{PutsAllBut}
use Rattle.resource_tool.specs.Findings.{tally_in}
use Rattle.resource_tool.specs.SurveyForm.{form_seen, found_in}
use Rattle.resource_tool.proofs.survey.form.SurveyForm.write_each_finding.Given as goal

-- the lines of all findings were written but of those that are left
abbrev pub invariant-loop-finding : goal.invariant-loop-finding
invariant-loop-finding g l =
    PutsAllBut (λ finding. found_in (form_seen l.self) l.layer finding (tally_in l.findings finding)) (g.W.Write.contents l.fn.out) (g.W.Write.contents l.out) l.kinds (drop l.finding-index l.kinds)
