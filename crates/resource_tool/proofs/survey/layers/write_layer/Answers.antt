use Rattle.std.proofs.Common.{◌∙◌}
use Rattle.command_base.specs.StackBytesSeen.{layer_bytes}
use Rattle.command_base.specs.cert_tree.box_answers.NumberSet.{locale_numbers}
use Rattle.resource_tool.specs.Finding.{all_findings}
use Rattle.resource_tool.specs.SurveyForm.{form_seen, found_in, notes_in}
use Rattle.resource_tool.specs.LayersText.{layer_lines}
use Rattle.resource_tool.proofs.LayerLaws.{layer-counts, layer-tells, lines-of_notes}
use Rattle.resource_tool.proofs.survey.layers.write_layer.Goals as goal

pub returns : goal.returns
unfolding layer_lines notes_in
returns g c =
    let locales = locale_numbers c.args.locales.now in
    let counts = layer-counts c.args.rule c.args.stack.now locales (c.args.place, layer_bytes c.args.layer) _ _ _ c.none-findings.ensures c.add_chunks.ensures.notes c.note_rows.ensures in (
      rw (lines-of_notes (found_in (form_seen c.args.form.now) c.args.place) _ _ all_findings counts) at c.in_ok-write_findings.ensures,
      c.differs.ensures ∙ layer-tells c.args.rule c.args.stack.now locales (c.args.place, layer_bytes c.args.layer) _ counts,
    )
