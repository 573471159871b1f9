use Rattle.std.proofs.Common.{rules}
use Rattle.std.proofs.KnownBytes.{Appends-trans}
use Rattle.command_base.specs.cert_tree.config_box.config_record.declared.coord.Coord.{Coord}
use Rattle.command_base.specs.cert_tree.config_box.config_record.Coord.{all_coords}
use Rattle.resource_tool.specs.Qualifiers.{rows_in_stack, numbers_at, spread_of}
use Rattle.resource_tool.specs.SurveyForm.{form_seen, qualifier_in}
use Rattle.resource_tool.specs.SurveyOutput.{qualifiers_text, survey_answer}
use Rattle.resource_tool.proofs.QualifierLaws.{lines-of_spreads}
use Rattle.resource_tool.proofs.survey.write_answer.Goals as goal

pub returns : goal.returns
unfolding survey_answer qualifiers_text
returns g c =
    let stack = c.args.opened.now.stack in
    let layers = rw c.locales-locales.ensures at c.in_ok-differs.ensures.text in
    let shared = rw c.requires at c.in_ok-write_shared.ensures in
    let lines = rw (lines-of_spreads (qualifier_in (form_seen c.args.form.now)) _ (λ (k : Coord). spread_of (numbers_at k (rows_in_stack stack))) all_coords c.of_stack-qualifiers.ensures) at c.in_ok-write_lines.ensures in
    let behind = Appends-trans _ _ _ _ _ lines c.in_ok-lacks.ensures.text in (
      Appends-trans _ _ _ _ _ layers (Appends-trans _ _ _ _ _ shared behind),
      search rules,
    )
