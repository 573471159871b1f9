-- How two resources differ on the devices of a part of a box, as a JSON value. An object is told member by member; they stand in it in
-- the order of their names' bytes.
use Rattle.std.specs.Prelude.{ℕ, List, codes, drop, length, map, None}
use Rattle.serde_json.specs.Data.{Data, object, Members, no_members, put as with_member}
use Rattle.notation.specs.declared.form.Form.TheVariants.{Android}
use Rattle.stack_diff.specs.config_box.box_answers.NumberSet.{SetOf}
use Rattle.stack_diff.specs.Difference.{RowDifferenceOf, RowRemoved, RowAdded, RowChanged, DifferenceOf, RowsDiffer, ContentsDiffer, FromNothing}
use Rattle.stack_diff.specs.names.Packages.{PackageNameOf}
use Rattle.resource_text.specs.ContentJson.{with_key, with_row_value, content_data}
use Rattle.resource_text.specs.DevicesJson.{devices_data}
use Rattle.resource_text.specs.TextJson.{text_data, list_data}
use Rattle.resource_text.specs.DevicesText.{devices_in}

-- ---- rows

-- the key of a row, and its value before, after, or both
unfoldable pub with_row_change : List PackageNameOf → RowDifferenceOf → Members → Members
with_row_change packages (RowRemoved row) others = with_row_value packages (codes "before") None row.key row.value (with_key packages row.key others)
with_row_change packages (RowAdded row) others = with_row_value packages (codes "after") None row.key row.value (with_key packages row.key others)
with_row_change packages (RowChanged key before after) others =
    with_row_value packages (codes "after") None key after (with_row_value packages (codes "before") None key before (with_key packages key others))

abbrev pub row_change_data : List PackageNameOf → RowDifferenceOf → Data
row_change_data packages row = object (with_row_change packages row no_members)

-- ---- the devices

-- what stands before the words of devices
abbrev pub on_words : List ℕ
on_words = codes " on "

-- the words of the devices, as `<600dp land`; none where the part is narrower at no coordinate
abbrev pub device_words : List SetOf → List SetOf → List ℕ
device_words whole part = drop (length on_words) (devices_in Android whole part)

-- with the devices as a box has them, and in words
unfoldable pub with_devices : List SetOf → List SetOf → Members → Members
with_devices whole part others =
    with_member (codes "on") (text_data (device_words whole part)) (with_member (codes "devices") (devices_data whole part) others)

-- ---- all of it

-- with the rows in which two bags differ, what is said before and after, or all that is said beside nothing
unfoldable pub with_difference : List PackageNameOf → DifferenceOf → Members → Members
with_difference packages (RowsDiffer rows) others = with_member (codes "rows") (list_data (map (row_change_data packages) rows)) others
with_difference packages (ContentsDiffer before after) others =
    with_member (codes "after") (content_data packages after) (with_member (codes "before") (content_data packages before) others)
with_difference packages (FromNothing content) others = with_member (codes "content") (content_data packages content) others

-- the same, and on which devices
abbrev pub change_data : List PackageNameOf → DifferenceOf → List SetOf → List SetOf → Data
change_data packages difference whole part = object (with_devices whole part (with_difference packages difference no_members))
