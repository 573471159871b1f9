-- Themes (AOSP: ResTable::Theme): what styles have set for attributes.
use Rattle.std.specs.Prelude.{ℕ, ◌≡◌, ◌≢◌, ◌==◌, Bool, true, not, List, ◌++◌, map, filter, find, Option, Some, None, Result, Ok, Err, if◌then◌else◌}
use Rattle.std.specs.List.{last_or}
use Rattle.std.specs.Map.{lookup}
use Rattle.std.specs.Option.{option_or}
use Rattle.reference_resolver.specs.res_value.declared.res_id.ResId.{ResId}
use Rattle.bag_rows.specs.Undefined.{is_undefined_value}
use Rattle.bag_rows.specs.declared.bag_row.BagRow.{BagRow}
use Rattle.bags_themes.specs.declared.bag_fault.BagFault.{BagFault}
use Rattle.bags_themes.specs.declared.bag_fault.BagFault.TheVariants.{OutOfMemory}
use Rattle.bag_rows.specs.declared.theme_value.ThemeValue.{ThemeValue}

-- attributes and their values; of an attribute that stands twice the first counts
abbrev pub ThemeOf : Type 0
ThemeOf = List (ResId × ThemeValue)

-- what is set for each attribute, none where it is unset
abbrev pub AttributeValues : Type 0
AttributeValues = ℕ → Option ThemeValue

-- in a theme
abbrev pub value_of : ThemeOf → AttributeValues
value_of theme attr = lookup (λ key. attr == key.0) theme

-- where nothing was applied
abbrev pub unset : AttributeValues
unset attr = None

-- unset, or set to a value that is undefined
abbrev pub is_undefined : Option ThemeValue → Bool
is_undefined None = true
is_undefined (Some set) = is_undefined_value set

-- ---- a style is applied

-- the values of the rows of an attribute, in their order
abbrev pub values_for : ℕ → List BagRow → List ThemeValue
values_for attr rows = map (λ row. record { layer = row.layer; value = row.value }) (filter (λ row. row.name.0 == attr) rows)

-- What an attribute has after the values of its rows. With force it is the last of these. Without, it stays what
-- it was where this was not undefined; else it is the first of the values that is not undefined, or the last of
-- them. Without rows it stays what it was.
abbrev pub value_after : Bool → Option ThemeValue → List ThemeValue → Option ThemeValue
value_after force old values =
    if force then last_or old values
    else if is_undefined old then option_or (find (λ set. not (is_undefined_value set)) values) (last_or old values)
    else old

-- what attributes have after these rows
abbrev pub values_after : Bool → List BagRow → AttributeValues → AttributeValues
values_after force rows values attr = value_after force (values attr) (values_for attr rows)

-- rows were applied to a theme, which was old and is new
abbrev pub AppliesRows : Bool → List BagRow → ThemeOf → ThemeOf → Type 0
AppliesRows force rows old new = (attr : ℕ) → value_of new attr ≡ values_after force rows (value_of old) attr

-- A call applied the rows of a style's bag, which are meant, or gave why there are none. Then, and where memory ran
-- out, the theme is unchanged.
abbrev pub AppliesStyle : Bool → ThemeOf → ThemeOf → Result (Unit {0}) BagFault → Result (List BagRow) BagFault → Type 0
AppliesStyle force old new (Ok _) meant = (rows : List BagRow) × (meant ≡ Ok rows) × AppliesRows force rows old new
AppliesStyle force old new (Err fault) meant = (fault ≢ OutOfMemory → meant ≡ Err fault) × (new ≡ old)

-- The attributes that have a value in a theme, and those that rows name. Contracts within the crate alone speak of this.
abbrev pub attributes_of : ThemeOf → List BagRow → List ℕ
attributes_of theme rows = map (λ set. set.0.0) theme ++ map (λ row. row.name.0) rows
