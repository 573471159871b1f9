use Rattle.contract_words.proofs.TextSteps.{PutsAllBut}
use Rattle.command_base.specs.cert_tree.box_answers.NumberSet.{locale_numbers}
use Rattle.resource_tool.specs.LayerNotes.{layer_differs}
use Rattle.resource_tool.specs.LayersText.{layer_lines}
use Rattle.resource_tool.specs.SurveyForm.{form_seen}
use Rattle.resource_tool.proofs.AnySteps.{FindsAllBut, layers_from}
use Rattle.resource_tool.proofs.survey.layers.write_layers.Given as goal

-- the lines of all layers were written but of those that are left, and whether an answer can differ is that of those so far
abbrev pub invariant-loop-place : goal.invariant-loop-place
invariant-loop-place g l = record {
  texts : PutsAllBut (layer_lines (form_seen l.form) l.rule l.stack (locale_numbers l.locales)) (g.W.Write.contents l.fn.out) (g.W.Write.contents l.out) (layers_from 0 l.layers) (layers_from l.place l.layers);
  differs : FindsAllBut (layer_differs l.rule l.stack (locale_numbers l.locales)) l.differs (layers_from 0 l.layers) (layers_from l.place l.layers);
}
