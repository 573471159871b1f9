-- What a survey found, as text. A line begins with `warning` where an answer can differ by it from a device's.
use Rattle.std.specs.Prelude.{ℕ, List, [], ◌∷◌, ◌++◌, codes, if◌then◌else◌}
use Rattle.std.specs.Fmt.{decimal}
use Rattle.command_base.specs.cert_tree.config_box.config_record.declared.coord.Coord as coord
use Rattle.command_base.specs.cert_tree.config_box.config_record.declared.coord.Coord.TheVariants as coords
use Rattle.command_base.specs.cert_tree.config_box.config_record.Coord.{name_of as name_of_coord}
use Rattle.command_base.specs.cert_tree.config_box.config_record.locales.LocaleNumber.{locale_of_number}
use Rattle.command_base.specs.cert_tree.config_box.config_record.locales.Text.{locale_text}
use Rattle.command_base.specs.overlay_map.res_value.ResId.{id_text}
use Rattle.command_base.specs.answer_text.LayerText.{layer_text}
use Rattle.command_base.specs.answer_text.NamedText.{named_number, named_coord}
use Rattle.command_base.specs.names.declared.shared.SharedNames.{SharedNames}
use Rattle.resource_tool.specs.declared.survey.finding.Finding.{Finding}
use Rattle.resource_tool.specs.declared.survey.site.Site.{Site}
use Rattle.resource_tool.specs.declared.survey.site.Site.TheVariants.{Chunk, Row}
use Rattle.resource_tool.specs.declared.survey.findings.Tally.{Tally}
use Rattle.resource_tool.specs.Finding.{name_of, differs}
use Rattle.resource_tool.specs.declared.survey.qualifiers.Spread.{Spread}

-- the place of a chunk in its file, or the id of a row
unfoldable pub site_text : Site → List ℕ
site_text (Chunk place) = decimal place
site_text (Row id) = id_text id.0

unfoldable pub weight_text : Finding → List ℕ
weight_text finding = if differs finding then codes "warning " else codes "note "

-- `NAME COUNT first SITE`
unfoldable pub tally_text : Finding → Tally → List ℕ
tally_text finding tally = named_number (name_of finding) tally.count ++ codes " first " ++ site_text tally.first

-- the line `note layer L NAME COUNT first SITE`, or that of a warning
unfoldable pub found_line : ℕ → Finding → Tally → List ℕ
found_line layer finding tally = weight_text finding ++ layer_text layer ++ codes " " ++ tally_text finding tally ++ 10 ∷ []

-- the line `warning shared-names N first ID`
unfoldable pub shared_line : SharedNames → List ℕ
shared_line shared = named_number (codes "warning shared-names") shared.count ++ codes " first " ++ id_text shared.first.0 ++ 10 ∷ []

-- a number of a coordinate; that of a locale is its text
unfoldable pub number_text : coord.Coord → ℕ → List ℕ
number_text coords.Locale n = locale_text (locale_of_number n)
number_text c n = decimal n

-- ` from LEAST to GREATEST`
unfoldable pub range_text : coord.Coord → Spread → List ℕ
range_text c spread = codes " from " ++ number_text c spread.least ++ codes " to " ++ number_text c spread.greatest

-- the line `qualifier NAME rows COUNT RANGE`
unfoldable pub qualifier_line : coord.Coord → Spread → List ℕ
qualifier_line c spread = named_coord (codes "qualifier") c ++ named_number (codes " rows") spread.count ++ range_text c spread ++ 10 ∷ []

-- the line `warning box lacks NAME`
unfoldable pub lacks_line : coord.Coord → List ℕ
lacks_line c = codes "warning box lacks " ++ name_of_coord c ++ 10 ∷ []
