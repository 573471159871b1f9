-- A stored configuration as a JSON value. A record is the list of its bytes.
use Rattle.std.specs.Prelude.{ℕ, ◌==◌, ◌&&◌, List, codes, fold, if◌then◌else◌}
use Rattle.hex.specs.Hex.{encode_lower}
use Rattle.serde_json.specs.Data.{Data, object, Members, no_members, put as with_member}
use Rattle.config_box.specs.config_record.declared.coord.Coord.{Coord}
use Rattle.config_box.specs.config_record.declared.coord.Coord.TheVariants as coords
use Rattle.config_box.specs.config_record.Coord.{all_coords, name_of}
use Rattle.config_box.specs.config_record.Record.{coordinate, locale_in, locale_script, locale_variant}
use Rattle.config_box.specs.config_record.locales.declared.locale.Locale.{Locale}
use Rattle.config_box.specs.config_record.locales.Text.{locale_text}
use Rattle.config_box.specs.config_record.locales.Zero.{is_zero}
use Rattle.notation.specs.ConfigText.{config_text}
use Rattle.resource_text.specs.TextJson.{text_data, number_data}

-- ---- a qualifier, where there is one: what is zero says nothing

unfoldable pub with_number : Coord → ℕ → Members → Members
with_number coord number others = if number == 0 then others else with_member (name_of coord) (number_data number) others

abbrev pub with_number_of : (Coord → ℕ) → Members → Coord → Members
with_number_of number others coord = with_number coord (number coord) others

-- those of all coordinates; at the locale it is 0
abbrev pub with_numbers : (Coord → ℕ) → Members → Members
with_numbers number others = fold (with_number_of number) others all_coords

unfoldable pub with_locale : Locale → Members → Members
with_locale locale others =
    if is_zero locale.language && is_zero locale.region then others else with_member (name_of coords.Locale) (text_data (locale_text locale)) others

-- a script or a variant, in hexadecimal digits
unfoldable pub with_bytes : List ℕ → List ℕ → Members → Members
with_bytes name bytes others = if is_zero bytes then others else with_member name (text_data (encode_lower bytes)) others

-- ---- all of them

unfoldable pub qualifiers_data : List ℕ → Data
qualifiers_data r =
    object (with_bytes (codes "variant") (locale_variant r) (with_bytes (codes "script") (locale_script r)
    (with_locale (locale_in r) (with_numbers (coordinate r) no_members))))

-- the qualifiers, and the words of Android for them
unfoldable pub config_data : List ℕ → Data
config_data r = object (with_member (codes "words") (text_data (config_text r)) (with_member (codes "qualifiers") (qualifiers_data r) no_members))
