-- What a survey found, as lines of JSON. An object is told member by member; they stand in it in the order of their names' bytes.
use Rattle.std.specs.Prelude.{ℕ, true, List, [], codes}
use Rattle.serde_json.specs.Data.{Data, boolean, object, string, Members, no_members, put as with_member}
use Rattle.command_base.specs.TableFaultText.{table_fault_text}
use Rattle.command_base.specs.cert_tree.config_box.config_record.declared.coord.Coord as coord
use Rattle.command_base.specs.cert_tree.config_box.config_record.declared.coord.Coord.TheVariants as coords
use Rattle.command_base.specs.cert_tree.config_box.config_record.Coord.{name_of as name_of_coord}
use Rattle.command_base.specs.cert_tree.config_box.config_record.locales.LocaleNumber.{locale_of_number}
use Rattle.command_base.specs.cert_tree.config_box.config_record.locales.Text.{locale_text}
use Rattle.command_base.specs.declared.fault.ToolFault.{ToolFault}
use Rattle.command_base.specs.declared.fault.ToolFault.TheVariants.{LayerTable}
use Rattle.command_base.specs.names.declared.shared.SharedNames.{SharedNames}
use Rattle.command_base.specs.overlay_map.res_value.ResId.{id_text}
use Rattle.resource_text.specs.EndJson.{with_layer_at}
use Rattle.resource_text.specs.LineJson.{line_members, line_json}
use Rattle.resource_text.specs.TextJson.{text_data, number_data}
use Rattle.resource_tool.specs.declared.survey.finding.Finding.{Finding}
use Rattle.resource_tool.specs.declared.survey.findings.Tally.{Tally}
use Rattle.resource_tool.specs.declared.survey.qualifiers.Spread.{Spread}
use Rattle.resource_tool.specs.declared.survey.site.Site.{Site}
use Rattle.resource_tool.specs.declared.survey.site.Site.TheVariants.{Chunk, Row}
use Rattle.resource_tool.specs.Finding.{name_of, differs}

-- the layer at a place, with the path of its table, where it has one of these
abbrev pub from_data : List (List ℕ) → ℕ → Data
from_data paths layer = object (with_layer_at paths layer no_members)

-- the place of a chunk in its file, or the id of a row
unfoldable pub with_site : Site → Members → Members
with_site (Chunk place) others = with_member (codes "place") (number_data place) others
with_site (Row id) others = with_member (codes "id") (text_data (id_text id.0)) others

abbrev pub site_data : Site → Data
site_data site = object (with_site site no_members)

-- a finding of a layer: how many there are, where the first is, and whether an answer can differ by it from a device's
unfoldable pub found_json : List (List ℕ) → ℕ → Finding → Tally → List ℕ
found_json paths layer finding tally =
    line_json (with_member (codes "warning") (boolean (differs finding)) (with_member (codes "from") (from_data paths layer)
    (with_member (codes "first") (site_data tally.first) (with_member (codes "finding") (string (name_of finding))
    (with_member (codes "count") (number_data tally.count) (line_members (codes "finding")))))))

-- the ids whose names stand for others
unfoldable pub shared_json : SharedNames → List ℕ
shared_json shared =
    line_json (with_member (codes "warning") (boolean true) (with_member (codes "first") (site_data (Row shared.first))
    (with_member (codes "count") (number_data shared.count) (line_members (codes "shared-names")))))

-- a number of a coordinate; that of a locale is its text
unfoldable pub said_data : coord.Coord → ℕ → Data
said_data coords.Locale n = text_data (locale_text (locale_of_number n))
said_data c n = number_data n

-- a qualifier: how many rows have it, its least and its greatest number
unfoldable pub qualifier_json : coord.Coord → Spread → List ℕ
qualifier_json c spread =
    line_json (with_member (codes "greatest") (said_data c spread.greatest) (with_member (codes "least") (said_data c spread.least)
    (with_member (codes "rows") (number_data spread.count) (with_member (codes "qualifier") (string (name_of_coord c)) (line_members (codes "qualifier"))))))

-- a qualifier that the box lacks
unfoldable pub lacks_json : coord.Coord → List ℕ
lacks_json c =
    line_json (with_member (codes "warning") (boolean true) (with_member (codes "qualifier") (string (name_of_coord c)) (line_members (codes "lacks"))))

-- the table of a layer that is refused; no other fault is told beside findings
unfoldable pub refused_json : List (List ℕ) → ToolFault → List ℕ
refused_json paths (LayerTable layer fault) =
    line_json (with_member (codes "from") (from_data paths layer) (with_member (codes "fault") (text_data (table_fault_text fault)) (line_members (codes "refused"))))
refused_json paths fault = []
