-- No line of a survey or of a map has a float.
use Rattle.std.proofs.Common.{◌≡◌, ℕ, true, false, List, Option, Some, None, refl}
use Rattle.std.specs.Prelude.{codes}
use Rattle.serde_json.specs.Data.{Members, boolean, no_members, object, put, string}
use Rattle.serde_json.specs.Written.{has_float}
use Rattle.command_base.specs.answer_text.overlay_map.Names.{type_name_in, key_name_in}
use Rattle.command_base.specs.answer_text.overlay_map.Table.{TableOf}
use Rattle.command_base.specs.answer_text.res_value.ResId.{id_text}
use Rattle.command_base.specs.answer_text.type_chunks.Row.{RowOf}
use Rattle.command_base.specs.cert_tree.config_box.config_record.declared.coord.Coord as coord
use Rattle.command_base.specs.cert_tree.config_box.config_record.declared.coord.Coord.TheVariants as coords
use Rattle.command_base.specs.cert_tree.config_box.config_record.locales.LocaleNumber.{locale_of_number}
use Rattle.command_base.specs.cert_tree.config_box.config_record.locales.Text.{locale_text}
use Rattle.command_base.specs.cert_tree.config_box.config_record.Coord.{name_of as name_of_coord}
use Rattle.command_base.specs.names.NameText.{name_text}
use Rattle.command_base.specs.names.declared.shared.SharedNames.{SharedNames}
use Rattle.resource_text.specs.LineJson.{line_members}
use Rattle.resource_text.specs.TextJson.{number_data, text_data}
use Rattle.resource_text.proofs.NoFloat.{NoFloat, put-no_float, text-no_float}
use Rattle.resource_text.proofs.NoFloatLines.{layer_at-no_float, line-no_float}
use Rattle.resource_tool.specs.declared.survey.finding.Finding.{Finding}
use Rattle.resource_tool.specs.declared.survey.findings.Tally.{Tally}
use Rattle.resource_tool.specs.declared.survey.qualifiers.Spread.{Spread}
use Rattle.resource_tool.specs.declared.survey.site.Site.{Site}
use Rattle.resource_tool.specs.declared.survey.site.Site.TheVariants.{Chunk, Row}
use Rattle.resource_tool.specs.Finding.{differs, name_of}
use Rattle.resource_tool.specs.MapJson.{with_first, with_name, with_names, with_row}
use Rattle.resource_tool.specs.SurveyJson.{from_data, said_data, site_data, with_site}

-- ---- a survey

from-no_float : (paths : List (List ℕ)) (layer : ℕ) → has_float (from_data paths layer) ≡ false
from-no_float paths layer = layer_at-no_float paths layer no_members refl

site-no_float : (site : Site) → has_float (site_data site) ≡ false
unfolding with_site
site-no_float (Chunk place) = refl
site-no_float (Row id) = put-no_float (codes "id") (text_data (id_text id.0)) no_members (text-no_float (id_text id.0)) refl

said-no_float : (c : coord.Coord) (n : ℕ) → has_float (said_data c n) ≡ false
unfolding said_data
said-no_float coords.Locale n = text-no_float (locale_text (locale_of_number n))
said-no_float c n = refl

pub found-no_float : (paths : List (List ℕ)) (layer : ℕ) (finding : Finding) (tally : Tally)
    → NoFloat (put (codes "warning") (boolean (differs finding)) (put (codes "from") (from_data paths layer) (put (codes "first") (site_data tally.first)
    (put (codes "finding") (string (name_of finding)) (put (codes "count") (number_data tally.count) (line_members (codes "finding")))))))
found-no_float paths layer finding tally =
    let line = line_members (codes "finding") in
    let counted = put (codes "count") (number_data tally.count) line in
    let named = put (codes "finding") (string (name_of finding)) counted in
    let placed = put (codes "first") (site_data tally.first) named in
    let layered = put (codes "from") (from_data paths layer) placed in
    put-no_float (codes "warning") (boolean (differs finding)) layered refl (put-no_float (codes "from") (from_data paths layer) placed (from-no_float paths layer) (put-no_float (codes "first") (site_data tally.first) named (site-no_float tally.first) (put-no_float (codes "finding") (string (name_of finding)) counted refl (put-no_float (codes "count") (number_data tally.count) line refl (line-no_float (codes "finding"))))))

pub shared-no_float : (shared : SharedNames)
    → NoFloat (put (codes "warning") (boolean true) (put (codes "first") (site_data (Row shared.first)) (put (codes "count") (number_data shared.count) (line_members (codes "shared-names")))))
shared-no_float shared =
    let line = line_members (codes "shared-names") in
    let counted = put (codes "count") (number_data shared.count) line in
    let placed = put (codes "first") (site_data (Row shared.first)) counted in
    put-no_float (codes "warning") (boolean true) placed refl (put-no_float (codes "first") (site_data (Row shared.first)) counted (site-no_float (Row shared.first)) (put-no_float (codes "count") (number_data shared.count) line refl (line-no_float (codes "shared-names"))))

pub qualifier-no_float : (c : coord.Coord) (spread : Spread)
    → NoFloat (put (codes "greatest") (said_data c spread.greatest) (put (codes "least") (said_data c spread.least) (put (codes "rows") (number_data spread.count)
    (put (codes "qualifier") (string (name_of_coord c)) (line_members (codes "qualifier"))))))
qualifier-no_float c spread =
    let line = line_members (codes "qualifier") in
    let named = put (codes "qualifier") (string (name_of_coord c)) line in
    let counted = put (codes "rows") (number_data spread.count) named in
    let bounded = put (codes "least") (said_data c spread.least) counted in
    put-no_float (codes "greatest") (said_data c spread.greatest) bounded (said-no_float c spread.greatest) (put-no_float (codes "least") (said_data c spread.least) counted (said-no_float c spread.least) (put-no_float (codes "rows") (number_data spread.count) named refl (put-no_float (codes "qualifier") (string (name_of_coord c)) line refl (line-no_float (codes "qualifier")))))

pub lacks-no_float : (c : coord.Coord) → NoFloat (put (codes "warning") (boolean true) (put (codes "qualifier") (string (name_of_coord c)) (line_members (codes "lacks"))))
lacks-no_float c =
    let line = line_members (codes "lacks") in
    let named = put (codes "qualifier") (string (name_of_coord c)) line in
    put-no_float (codes "warning") (boolean true) named refl (put-no_float (codes "qualifier") (string (name_of_coord c)) line refl (line-no_float (codes "lacks")))

pub refused-no_float : (paths : List (List ℕ)) (layer : ℕ) (fault : List ℕ)
    → NoFloat (put (codes "from") (from_data paths layer) (put (codes "fault") (text_data fault) (line_members (codes "refused"))))
refused-no_float paths layer fault =
    let line = line_members (codes "refused") in
    let told = put (codes "fault") (text_data fault) line in
    put-no_float (codes "from") (from_data paths layer) told (from-no_float paths layer) (put-no_float (codes "fault") (text_data fault) line (text-no_float fault) (line-no_float (codes "refused")))

-- ---- a map

names-no_float : (type_name entry_name : Option (List ℕ)) (ms : Members) → NoFloat ms → NoFloat (with_names type_name entry_name ms)
names-no_float (Some type_name) (Some entry_name) ms none = put-no_float (codes "name") _ ms (text-no_float _) none
names-no_float (Some type_name) None ms none = none
names-no_float None entry_name ms none = none

name-no_float : (overlay : TableOf) (row : RowOf) (ms : Members) → NoFloat ms → NoFloat (with_name overlay row ms)
unfolding with_name
name-no_float overlay row ms none = names-no_float (name_text (type_name_in overlay row)) (name_text (key_name_in overlay row)) ms none

row-no_float : (overlay : TableOf) (row : RowOf) (ms : Members) → NoFloat ms → NoFloat (with_row overlay row ms)
unfolding with_row
row-no_float overlay row ms none =
    name-no_float overlay row (put (codes "id") (text_data (id_text row.id)) ms) (put-no_float (codes "id") (text_data (id_text row.id)) ms (text-no_float (id_text row.id)) none)

first-no_float : (overlay : TableOf) (row : Option RowOf) (ms : Members) → NoFloat ms → NoFloat (with_first overlay row ms)
first-no_float overlay (Some row) ms none = name-no_float overlay row ms none
first-no_float overlay None ms none = none

pub pair-no_float : (overlay : TableOf) (row : Option RowOf) (target own : ℕ)
    → NoFloat (with_first overlay row (put (codes "own") (text_data (id_text own)) (put (codes "target") (text_data (id_text target)) (line_members (codes "pair")))))
pair-no_float overlay row target own =
    let line = line_members (codes "pair") in
    let aimed = put (codes "target") (text_data (id_text target)) line in
    let owned = put (codes "own") (text_data (id_text own)) aimed in
    first-no_float overlay row owned (put-no_float (codes "own") (text_data (id_text own)) aimed (text-no_float (id_text own)) (put-no_float (codes "target") (text_data (id_text target)) line (text-no_float (id_text target)) (line-no_float (codes "pair"))))

pub unmapped-no_float : (overlay : TableOf) (row : RowOf) → NoFloat (with_row overlay row (line_members (codes "unmapped")))
unmapped-no_float overlay row = row-no_float overlay row (line_members (codes "unmapped")) (line-no_float (codes "unmapped"))

pub astray-no_float : (overlay : TableOf) (from to : RowOf)
    → NoFloat (put (codes "to") (object (with_row overlay to no_members)) (put (codes "from") (object (with_row overlay from no_members)) (line_members (codes "astray"))))
astray-no_float overlay from to =
    let line = line_members (codes "astray") in
    let begun = put (codes "from") (object (with_row overlay from no_members)) line in
    put-no_float (codes "to") (object (with_row overlay to no_members)) begun (row-no_float overlay to no_members refl) (put-no_float (codes "from") (object (with_row overlay from no_members)) line (row-no_float overlay from no_members refl) (line-no_float (codes "astray")))
