-- No line of JSON about ids and candidates has a float.
use Rattle.std.proofs.Common.{◌≡◌, ℕ, ◌==◌, ◌&&◌, Bool, true, false, List, [], ◌∷◌, Option, Some, None, fold, slice_get, refl}
use Rattle.std.specs.Prelude.{codes}
use Rattle.hex.specs.Hex.{encode_lower}
use Rattle.serde_json.specs.Data.{object, string, Members, no_members, put}
use Rattle.serde_json.specs.Written.{has_float}
use Rattle.config_box.specs.config_record.declared.coord.Coord.{Coord}
use Rattle.config_box.specs.config_record.declared.coord.Coord.TheVariants as coords
use Rattle.config_box.specs.config_record.Coord.{all_coords, name_of}
use Rattle.config_box.specs.config_record.Record.{coordinate, locale_in, locale_script, locale_variant}
use Rattle.config_box.specs.config_record.locales.declared.locale.Locale.{Locale}
use Rattle.config_box.specs.config_record.locales.Text.{locale_text}
use Rattle.config_box.specs.config_record.locales.Zero.{is_zero}
use Rattle.notation.specs.ConfigText.{config_text}
use Rattle.notation.specs.declared.form.Form.TheVariants.{Android}
use Rattle.res_value.specs.ResId.{id_text}
use Rattle.res_value.specs.declared.value.Value.{Value}
use Rattle.names.specs.NamedIds.{packages_of}
use Rattle.answer_text.specs.overlay_map.Candidates.{CandOf}
use Rattle.answer_text.specs.InForm.{value_in}
use Rattle.answer_text.specs.ValueContent.{value_content}
use Rattle.reference_resolver.specs.declared.decision.Decision.{Decision}
use Rattle.reference_resolver.specs.declared.decision.Decision.TheVariants.{SetAside, NoMatch, First, TookOver, TookOverEqual, KeptOut}
use Rattle.reference_resolver.specs.declared.end.End.{End}
use Rattle.reference_resolver.specs.declared.end.End.TheVariants as of_end
use Rattle.reference_resolver.specs.Ends.{references_followed, is_value, end_of}
use Rattle.resource_text.specs.ConfigJson.{with_number, with_number_of, with_numbers, with_locale, with_bytes, qualifiers_data, config_data}
use Rattle.resource_text.specs.DecisionWords.{decision_notation}
use Rattle.resource_text.specs.EndJson.{name_data, with_id, resource_data, value_data_at, with_path, with_layer_at, with_layer, with_from_layer, place_data, with_end, with_origin, end_data, end_data_within, with_end_at}
use Rattle.resource_text.specs.EndNotation.{last_selected}
use Rattle.resource_text.specs.ExplainJson.{did, with_did, with_rule, with_reason, decision_data}
use Rattle.resource_text.specs.LineJson.{line_members}
use Rattle.resource_text.specs.Naming.{NamingOf, id_notation}
use Rattle.resource_text.specs.TextJson.{text_data, number_data}
use Rattle.resource_text.proofs.NoFloat.{NoFloat, put-no_float, text-no_float, value-no_float, either}

-- ---- configurations

number-no_float : (c : Coord) (number : ℕ) (ms : Members) → NoFloat ms → NoFloat (with_number c number ms)
unfolding with_number
number-no_float c number ms none = either (number == 0) ms _ none (put-no_float (name_of c) (number_data number) ms refl none)

some_numbers-no_float : (number : Coord → ℕ) (ms : Members) (cs : List Coord) → NoFloat ms → NoFloat (fold (with_number_of number) ms cs)
some_numbers-no_float number ms [] none = none
some_numbers-no_float number ms (c ∷ cs) none = some_numbers-no_float number (with_number_of number ms c) cs (number-no_float c (number c) ms none)

pub numbers-no_float : (number : Coord → ℕ) (ms : Members) → NoFloat ms → NoFloat (with_numbers number ms)
numbers-no_float number ms none = some_numbers-no_float number ms all_coords none

pub locale-no_float : (locale : Locale) (ms : Members) → NoFloat ms → NoFloat (with_locale locale ms)
unfolding with_locale
locale-no_float locale ms none =
    either (is_zero locale.language && is_zero locale.region) ms _ none (put-no_float (name_of coords.Locale) (text_data (locale_text locale)) ms (text-no_float (locale_text locale)) none)

bytes-no_float : (name bytes : List ℕ) (ms : Members) → NoFloat ms → NoFloat (with_bytes name bytes ms)
unfolding with_bytes
bytes-no_float name bytes ms none = either (is_zero bytes) ms _ none (put-no_float name (text_data (encode_lower bytes)) ms (text-no_float (encode_lower bytes)) none)

qualifiers-no_float : (r : List ℕ) → has_float (qualifiers_data r) ≡ false
unfolding qualifiers_data
qualifiers-no_float r =
    bytes-no_float (codes "variant") (locale_variant r) _ (bytes-no_float (codes "script") (locale_script r) _
    (locale-no_float (locale_in r) _ (numbers-no_float (coordinate r) no_members refl)))

pub config-no_float : (r : List ℕ) → has_float (config_data r) ≡ false
unfolding config_data
config-no_float r =
    put-no_float (codes "words") (text_data (config_text r)) (put (codes "qualifiers") (qualifiers_data r) no_members) (text-no_float (config_text r))
    (put-no_float (codes "qualifiers") (qualifiers_data r) no_members (qualifiers-no_float r) refl)

-- ---- ids and rows

name-no_float : (naming : NamingOf) (id : ℕ) → has_float (name_data naming id) ≡ false
name-no_float naming id = text-no_float (id_notation naming id)

pub id-no_float : (naming : NamingOf) (id : ℕ) (ms : Members) → NoFloat ms → NoFloat (with_id naming id ms)
unfolding with_id
id-no_float naming id ms none =
    put-no_float (codes "name") (name_data naming id) (put (codes "id") (text_data (id_text id)) ms) (name-no_float naming id)
    (put-no_float (codes "id") (text_data (id_text id)) ms (text-no_float (id_text id)) none)

pub resource-no_float : (naming : NamingOf) (id : ℕ) → has_float (resource_data naming id) ≡ false
unfolding resource_data
resource-no_float naming id = id-no_float naming id no_members refl

pub value_at-no_float : (naming : NamingOf) (layer : ℕ) (value : Value) → has_float (value_data_at naming layer value) ≡ false
unfolding value_data_at
value_at-no_float naming layer value =
    let content = value_content naming.stack layer value in
    value-no_float (packages_of naming.stack) (Some value) content (value_in Android (packages_of naming.stack) content)

path-no_float : (path : Option (List ℕ)) (ms : Members) → NoFloat ms → NoFloat (with_path path ms)
path-no_float (Some path) ms none = put-no_float (codes "path") (string path) ms refl none
path-no_float None ms none = none

pub layer_at-no_float : (paths : List (List ℕ)) (place : ℕ) (ms : Members) → NoFloat ms → NoFloat (with_layer_at paths place ms)
unfolding with_layer_at
layer_at-no_float paths place ms none =
    path-no_float (slice_get paths place) (put (codes "layer") (number_data place) ms) (put-no_float (codes "layer") (number_data place) ms refl none)

pub layer-no_float : (naming : NamingOf) (place : ℕ) (ms : Members) → NoFloat ms → NoFloat (with_layer naming place ms)
layer-no_float naming place ms none = layer_at-no_float naming.paths place ms none

pub from_layer-no_float : (naming : NamingOf) (place : ℕ) (ms : Members) → NoFloat ms → NoFloat (with_from_layer naming place ms)
unfolding with_from_layer
from_layer-no_float naming place ms none =
    put-no_float (codes "from") (object (with_layer naming place no_members)) ms (layer-no_float naming place no_members refl) none

pub place-no_float : (naming : NamingOf) (layer : ℕ) (config : List ℕ) → has_float (place_data naming layer config) ≡ false
unfolding place_data
place-no_float naming layer config =
    layer-no_float naming layer (put (codes "config") (config_data config) no_members)
    (put-no_float (codes "config") (config_data config) no_members (config-no_float config) refl)

-- ---- ends

pub said-no_float : (naming : NamingOf) (end : End) (ms : Members) → NoFloat ms → NoFloat (with_end naming end ms)
unfolding with_end
said-no_float naming (of_end.Value layer value) ms none = put-no_float (codes "value") (value_data_at naming layer value) ms (value_at-no_float naming layer value) none
said-no_float naming (of_end.Bag id) ms none = put-no_float (codes "bag") (resource_data naming id.0) ms (resource-no_float naming id.0) none
said-no_float naming (of_end.Absent id) ms none = put-no_float (codes "absent") (resource_data naming id.0) ms (resource-no_float naming id.0) none
said-no_float naming (of_end.TooLong id) ms none = put-no_float (codes "tooManyReferences") (resource_data naming id.0) ms (resource-no_float naming id.0) none

origin-no_float : (naming : NamingOf) (last : Option CandOf) (is_of_it : Bool) (ms : Members) → NoFloat ms → NoFloat (with_origin naming last is_of_it ms)
unfolding with_origin
origin-no_float naming None is_of_it ms none = none
origin-no_float naming (Some candidate) true ms none =
    let place = place_data naming candidate.layer candidate.row.config in
    put-no_float (codes "from") place ms (place-no_float naming candidate.layer candidate.row.config) none
origin-no_float naming (Some candidate) false ms none = none

pub end-no_float : (naming : NamingOf) (last : Option CandOf) (end : End) → has_float (end_data naming last end) ≡ false
end-no_float naming last end = origin-no_float naming last (is_value end) (with_end naming end no_members) (said-no_float naming end no_members refl)

pub end_within-no_float : (naming : NamingOf) (most : ℕ) (d : List ℕ) (id : ℕ) → has_float (end_data_within naming most d id) ≡ false
unfolding end_data_within
end_within-no_float naming most d id = end-no_float naming (last_selected naming.stack most id d) (end_of naming.stack most id d)

pub end_at-no_float : (naming : NamingOf) (d : List ℕ) (id : ℕ) (ms : Members) → NoFloat ms → NoFloat (with_end_at naming d id ms)
unfolding with_end_at
end_at-no_float naming d id ms none =
    put-no_float (codes "end") (end_data_within naming references_followed d id) ms (end_within-no_float naming references_followed d id) none

pub line-no_float : (kind : List ℕ) → NoFloat (line_members kind)
line-no_float kind = put-no_float (codes "line") (string kind) no_members refl refl

-- ---- candidates

rule-no_float : (rule : Option ℕ) (ms : Members) → NoFloat ms → NoFloat (with_rule rule ms)
rule-no_float (Some rule) ms none = put-no_float (codes "rule") _ ms (text-no_float _) none
rule-no_float None ms none = none

reason-no_float : (decision : Decision) (ms : Members) → NoFloat ms → NoFloat (with_reason decision ms)
unfolding with_reason
reason-no_float SetAside ms none = none
reason-no_float (NoMatch coord) ms none = put-no_float (codes "qualifier") (string (name_of coord)) ms refl none
reason-no_float First ms none = none
reason-no_float (TookOver rule) ms none = rule-no_float rule ms none
reason-no_float TookOverEqual ms none = none
reason-no_float (KeptOut rule) ms none = rule-no_float rule ms none

pub did-no_float : (did words : List ℕ) (ms : Members) → NoFloat ms → NoFloat (with_did did words ms)
unfolding with_did
did-no_float did words ms none =
    put-no_float (codes "words") (text_data words) (put (codes "did") (string did) ms) (text-no_float words)
    (put-no_float (codes "did") (string did) ms refl none)

pub decision-no_float : (decision : Decision) → has_float (decision_data decision) ≡ false
unfolding decision_data
decision-no_float decision =
    did-no_float (did decision) (decision_notation decision) (with_reason decision no_members) (reason-no_float decision no_members refl)
