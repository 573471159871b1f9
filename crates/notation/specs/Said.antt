-- What the parts of a line say together.
use Rattle.std.specs.Prelude.{ℕ, Bool, true, false, List, [], ◌∷◌, slice_set, slice_get, unwrap_or, Option, Some, None, Result, Ok, Err, if◌then◌else◌}
use Rattle.contract_words.specs.Faults.{◌>>=◌}
use Rattle.config_record.specs.declared.coord.Coord.{Coord}
use Rattle.config_record.specs.declared.coord.Coord.TheVariants as coords
use Rattle.config_record.specs.declared.fields.Fields.{Fields}
use Rattle.config_record.specs.Coord.{place_of}
use Rattle.config_record.specs.locales.declared.locale_rule.LocaleRule.{LocaleRule}
use Rattle.notation.specs.declared.qualifier.Qualifier.{Qualifier}
use Rattle.notation.specs.declared.qualifier.Qualifier.TheVariants.{Number, Locale, Size, Version}
use Rattle.notation.specs.declared.said.Said.{Said}
use Rattle.notation.specs.Fault.{FaultOf, NoQualifier}
use Rattle.notation.specs.Qualifier.{qualifier_in, kind_of}

abbrev pub with_number : Coord → ℕ → Fields → Fields
with_number coord number fields = record fields { numbers = slice_set fields.numbers (place_of coord) number }

-- the fields that a qualifier changes
unfoldable pub with_qualifier : Qualifier → Fields → Fields
with_qualifier (Number coord number) fields = with_number coord number fields
with_qualifier (Locale locale) fields = record fields { locale = locale }
with_qualifier (Size width height) fields = with_number coords.Height height (with_number coords.Width width fields)
with_qualifier (Version sdk minor) fields = with_number coords.Minor minor (with_number coords.Sdk sdk fields)

-- whether a part has spoken of a coordinate first
unfoldable pub is_given : Said → Coord → Bool
is_given said coord = unwrap_or (slice_get said.given (place_of coord)) false

unfoldable pub with_given : Qualifier → Said → Said
with_given qualifier said =
    record {
      fields = with_qualifier qualifier said.fields;
      given = slice_set said.given (place_of (kind_of qualifier)) true;
    }

-- what a part adds; `part` is refused where it is no qualifier, or of a kind that is there
abbrev pub with_read : List ℕ → Option Qualifier → Said → Result Said FaultOf
with_read part None said = Err (NoQualifier part)
with_read part (Some qualifier) said =
    if is_given said (kind_of qualifier) then Err (NoQualifier part) else Ok (with_given qualifier said)

unfoldable pub with_part : LocaleRule → List ℕ → Said → Result Said FaultOf
with_part rule part said = with_read part (qualifier_in rule part) said

-- from the left
unfoldable pub with_parts : LocaleRule → List (List ℕ) → Said → Result Said FaultOf
with_parts rule [] said = Ok said
with_parts rule (part ∷ parts) said = with_part rule part said >>= with_parts rule parts
