-- The lines of a survey, in the form that is asked for.
use Rattle.std.specs.Prelude.{ℕ, ◌==◌, Bool, List, [], map, string_bytes, Option, Some, None, if◌then◌else◌}
use Rattle.std.specs.List.{flat_map}
use Rattle.command_base.specs.cert_tree.config_box.config_record.declared.coord.Coord as coord
use Rattle.command_base.specs.declared.fault.ToolFault.{ToolFault}
use Rattle.command_base.specs.FaultText.{fault_line}
use Rattle.command_base.specs.names.declared.shared.SharedNames.{SharedNames}
use Rattle.resource_text.specs.declared.line_form.LineForm.{LineForm}
use Rattle.resource_text.specs.declared.line_form.LineForm.TheVariants.{Text, Json}
use Rattle.resource_tool.specs.declared.survey.finding.Finding.{Finding}
use Rattle.resource_tool.specs.declared.survey.findings.Tally.{Tally}
use Rattle.resource_tool.specs.declared.survey.form.SurveyForm.{SurveyForm}
use Rattle.resource_tool.specs.declared.survey.qualifiers.Spread.{Spread}
use Rattle.resource_tool.specs.Counted.{notes_with, tally_of}
use Rattle.resource_tool.specs.Finding.{all_findings}
use Rattle.resource_tool.specs.Findings.{Note}
use Rattle.resource_tool.specs.SurveyJson.{found_json, lacks_json, qualifier_json, refused_json, shared_json}
use Rattle.resource_tool.specs.SurveyText.{found_line, lacks_line, qualifier_line, shared_line}

-- text or JSON, where the tables of the layers lie at these paths
pub record FormOf : Type 0 where
  pub lines : LineForm
  pub paths : List (List ℕ)

-- by its content, not its address
abbrev pub form_seen : SurveyForm → FormOf
form_seen form = record { lines = form.lines; paths = map string_bytes form.paths.now }

-- what is written: this text, or this JSON
abbrev pub written : LineForm → List ℕ → List ℕ → List ℕ
written (Text form) text json = text
written Json text json = json

-- the line of a finding of a layer; none where nothing is found
unfoldable pub found_in : FormOf → ℕ → Finding → Tally → List ℕ
found_in form layer finding tally =
    if tally.count == 0 then [] else written form.lines (found_line layer finding tally) (found_json form.paths layer finding tally)

-- a line for each finding that the notes of a layer have, in the order of findings
unfoldable pub notes_in : FormOf → ℕ → List Note → List ℕ
notes_in form layer notes = flat_map (λ finding. found_in form layer finding (tally_of (notes_with finding notes))) all_findings

-- the line of the ids whose names stand for others, where there are some
unfoldable pub shared_in : FormOf → Option SharedNames → List ℕ
shared_in form None = []
shared_in form (Some shared) = written form.lines (shared_line shared) (shared_json shared)

-- the line of a qualifier; none where no row has it
unfoldable pub qualifier_in : FormOf → coord.Coord → Spread → List ℕ
qualifier_in form c spread = if spread.count == 0 then [] else written form.lines (qualifier_line c spread) (qualifier_json c spread)

-- the line of a qualifier, where the box lacks it
unfoldable pub lacking_in : FormOf → Bool → coord.Coord → List ℕ
lacking_in form lacking c = if lacking then written form.lines (lacks_line c) (lacks_json c) else []

-- the line of a table that is refused
unfoldable pub refused_in : FormOf → ToolFault → List ℕ
refused_in form fault = written form.lines (fault_line fault) (refused_json form.paths fault)
