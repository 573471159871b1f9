-- No JSON of this crate has a float.
use Rattle.std.proofs.Common.{◌≡◌, ℕ, Bool, true, false, if◌then◌else◌, List, [], ◌∷◌, Option, Some, None, map, fold, refl}
use Rattle.std.proofs.lemmas.Bool.{or_from, or_parts}
use Rattle.std.specs.Prelude.{codes}
use Rattle.std.specs.Cmp.Lexicographic.{slice_cmp}
use Rattle.std.specs.Ordering.{nat_cmp, match_ordering}
use Rattle.std.specs.declared.cmp.Ordering.{Ordering}
use Rattle.std.specs.declared.cmp.Ordering.TheVariants as order
use Rattle.serde_json.specs.Data.{Data, object, string, Members, no_members, member, put}
use Rattle.serde_json.specs.View.{items_of}
use Rattle.serde_json.specs.Written.{has_float, items_have_float, members_have_float}
use Rattle.config_box.specs.config_record.declared.coord.Coord.{Coord}
use Rattle.config_box.specs.config_record.Coord.{all_coords, name_of}
use Rattle.config_box.specs.box_answers.NumberSet.{SetOf, RangeOf, NumbersOf, LocalesOf}
use Rattle.config_box.specs.box_answers.Members.{set_at}
use Rattle.notation.specs.Narrower.{is_narrower}
use Rattle.names.specs.Packages.{PackageNameOf}
use Rattle.answer_text.specs.Content.{ValueContentOf, StringOf, GarbledOf, BrokenOf, ReferenceOf, AttributeOf, OtherOf, RowKeyOf, PlaceOf, QuantityOf, CalledOf, RowContentOf, ContentOf, ValueOf, BagOf, AbsentOf, TooManyReferencesOf, TooManyParentsOf}
use Rattle.answer_text.specs.InForm.{value_in, row_value_in}
use Rattle.res_value.specs.declared.value.Value.{Value}
use Rattle.answer_text.specs.ValueText.{broken_text}
use Rattle.notation.specs.declared.form.Form.TheVariants.{Android}
use Rattle.resource_text.specs.TextJson.{text_data, number_data, list_data}
use Rattle.resource_text.specs.ContentJson.{label_data, with_kind_and_word, with_stored, with_value, value_data, key_data, with_key, with_row_value, with_row, row_data, with_content, content_data}
use Rattle.resource_text.specs.DevicesJson.{locale_data, set_data, with_narrower, devices_data}
use Rattle.stack_diff.specs.Difference.{RowDifferenceOf, RowRemoved, RowAdded, RowChanged, DifferenceOf, RowsDiffer, ContentsDiffer, FromNothing}
use Rattle.resource_text.specs.ChangeJson.{device_words, with_row_change, row_change_data, with_devices, with_difference, change_data}

-- ---- lists

pub items-no_float : {X : Type 0} (f : X → Data) → ((x : X) → has_float (f x) ≡ false) → (xs : List X) → items_have_float (items_of (map f xs)) ≡ false
items-no_float f none [] = refl
items-no_float f none (x ∷ xs) = or_from (has_float (f x)) (items_have_float (items_of (map f xs))) (none x) (items-no_float f none xs)

-- ---- objects

abbrev pub NoFloat : Members → Type 0
NoFloat ms = members_have_float ms ≡ false

at_order : (o : Ordering) (k l : List ℕ) (d e : Data) (ms : Members) → has_float d ≡ false → has_float e ≡ false → NoFloat ms → NoFloat (put k d ms)
    → NoFloat (match_ordering o (member k d (member l e ms)) (member l d ms) (member l e (put k d ms)))
at_order order.Less k l d e ms new old others more = or_from (has_float d) _ new (or_from (has_float e) _ old others)
at_order order.Equal k l d e ms new old others more = or_from (has_float d) _ new others
at_order order.Greater k l d e ms new old others more = or_from (has_float e) _ old more

pub put-no_float : (k : List ℕ) (d : Data) (ms : Members) → has_float d ≡ false → NoFloat ms → NoFloat (put k d ms)
put-no_float k d no_members new others = or_from (has_float d) false new refl
put-no_float k d (member l e ms) new others =
    let parts = or_parts (has_float e) (members_have_float ms) others in
    at_order (slice_cmp nat_cmp k l) k l d e ms new parts.0 parts.1 (put-no_float k d ms new parts.1)

-- ---- contents

pub text-no_float : (text : List ℕ) → has_float (text_data text) ≡ false
unfolding text_data
text-no_float text = refl

kind_and_word-no_float : (value : Value) (ms : Members) → NoFloat ms → NoFloat (with_kind_and_word value ms)
kind_and_word-no_float value ms none =
    put-no_float (codes "word") (number_data value.word) (put (codes "kind") (number_data value.kind) ms) refl
    (put-no_float (codes "kind") (number_data value.kind) ms refl none)

stored-no_float : (stored : Option Value) (ms : Members) → NoFloat ms → NoFloat (with_stored stored ms)
unfolding with_stored
stored-no_float (Some value) ms none =
    put-no_float (codes "stored") (object (with_kind_and_word value no_members)) ms (kind_and_word-no_float value no_members refl) none
stored-no_float None ms none = none

with_value-no_float : (packages : List PackageNameOf) (value : ValueContentOf) (ms : Members) → NoFloat ms → NoFloat (with_value packages value ms)
unfolding with_value text_data
with_value-no_float packages (StringOf text) ms none = put-no_float (codes "string") (string text) ms refl none
with_value-no_float packages (GarbledOf text) ms none = put-no_float (codes "garbled") (text_data text) ms refl none
with_value-no_float packages (BrokenOf broken) ms none = put-no_float (codes "broken") (text_data (broken_text broken)) ms refl none
with_value-no_float packages (ReferenceOf label) ms none = put-no_float (codes "reference") (label_data packages label) ms refl none
with_value-no_float packages (AttributeOf label) ms none = put-no_float (codes "attribute") (label_data packages label) ms refl none
with_value-no_float packages (OtherOf value) ms none = kind_and_word-no_float value ms none

pub value-no_float : (packages : List PackageNameOf) (stored : Option Value) (value : ValueContentOf) (xml : List ℕ) → has_float (value_data packages stored value xml) ≡ false
unfolding value_data text_data
value-no_float packages stored value xml =
    let told = put (codes "xml") (text_data xml) no_members in with_value-no_float packages value (with_stored stored told) (stored-no_float stored told refl)

key-no_float : (packages : List PackageNameOf) (key : RowKeyOf) → has_float (key_data packages key) ≡ false
unfolding key_data text_data
key-no_float packages (PlaceOf place) = refl
key-no_float packages (QuantityOf quantity) = refl
key-no_float packages (CalledOf label) = refl

with_key-no_float : (packages : List PackageNameOf) (key : RowKeyOf) (ms : Members) → NoFloat ms → NoFloat (with_key packages key ms)
with_key-no_float packages key ms none = put-no_float (codes "key") (key_data packages key) ms (key-no_float packages key) none

with_row_value-no_float : (packages : List PackageNameOf) (name : List ℕ) (stored : Option Value) (key : RowKeyOf) (value : ValueContentOf) (ms : Members)
    → NoFloat ms → NoFloat (with_row_value packages name stored key value ms)
with_row_value-no_float packages name stored key value ms none =
    let xml = row_value_in Android packages key value in
    put-no_float name (value_data packages stored value xml) ms (value-no_float packages stored value xml) none

pub with_row-no_float : (packages : List PackageNameOf) (stored : Option Value) (key : RowKeyOf) (value : ValueContentOf) (ms : Members)
    → NoFloat ms → NoFloat (with_row packages stored key value ms)
unfolding with_row
with_row-no_float packages stored key value ms none =
    with_row_value-no_float packages (codes "value") stored key value (with_key packages key ms) (with_key-no_float packages key ms none)

row-no_float : (packages : List PackageNameOf) (row : RowContentOf) → has_float (row_data packages row) ≡ false
row-no_float packages row = with_row-no_float packages None row.key row.value no_members refl

pub with_content-no_float : (packages : List PackageNameOf) (content : ContentOf) (ms : Members) → NoFloat ms → NoFloat (with_content packages content ms)
unfolding with_content text_data
with_content-no_float packages (ValueOf value) ms none =
    let xml = value_in Android packages value in put-no_float (codes "value") (value_data packages None value xml) ms (value-no_float packages None value xml) none
with_content-no_float packages (BagOf rows) ms none =
    put-no_float (codes "bag") (list_data (map (row_data packages) rows)) ms (items-no_float (row_data packages) (row-no_float packages) rows) none
with_content-no_float packages (AbsentOf label) ms none = put-no_float (codes "absent") (label_data packages label) ms refl none
with_content-no_float packages (TooManyReferencesOf label) ms none = put-no_float (codes "tooManyReferences") (label_data packages label) ms refl none
with_content-no_float packages (TooManyParentsOf label) ms none = put-no_float (codes "tooManyParents") (label_data packages label) ms refl none

pub content-no_float : (packages : List PackageNameOf) (content : ContentOf) → has_float (content_data packages content) ≡ false
content-no_float packages content = with_content-no_float packages content no_members refl

-- ---- devices

pub set-no_float : (set : SetOf) → has_float (set_data set) ≡ false
unfolding set_data text_data
set-no_float (RangeOf low high) = put-no_float (codes "to") (number_data high) (put (codes "from") (number_data low) no_members) refl refl
set-no_float (NumbersOf numbers) = items-no_float number_data (λ number. refl) numbers
set-no_float (LocalesOf numbers) = items-no_float locale_data (λ number. refl) numbers

pub either : (b : Bool) (ms others : Members) → NoFloat ms → NoFloat others → NoFloat (if b then ms else others)
either true ms others first second = first
either false ms others first second = second

with-no_float : (whole part : List SetOf) (ms : Members) (c : Coord) → NoFloat ms → NoFloat (with_narrower whole part ms c)
unfolding with_narrower
with-no_float whole part ms c none = either (is_narrower whole part c) _ ms (put-no_float (name_of c) (set_data (set_at part c)) ms (set-no_float (set_at part c)) none) none

narrower-no_float : (whole part : List SetOf) (ms : Members) (coords : List Coord) → NoFloat ms → NoFloat (fold (with_narrower whole part) ms coords)
narrower-no_float whole part ms [] none = none
narrower-no_float whole part ms (c ∷ coords) none = narrower-no_float whole part (with_narrower whole part ms c) coords (with-no_float whole part ms c none)

pub devices-no_float : (whole part : List SetOf) → has_float (devices_data whole part) ≡ false
unfolding devices_data
devices-no_float whole part = narrower-no_float whole part no_members all_coords refl

-- ---- changes

row_change-no_float : (packages : List PackageNameOf) (row : RowDifferenceOf) → has_float (row_change_data packages row) ≡ false
unfolding with_row_change
row_change-no_float packages (RowRemoved row) = with_row_value-no_float packages (codes "before") None row.key row.value (with_key packages row.key no_members) (with_key-no_float packages row.key no_members refl)
row_change-no_float packages (RowAdded row) = with_row_value-no_float packages (codes "after") None row.key row.value (with_key packages row.key no_members) (with_key-no_float packages row.key no_members refl)
row_change-no_float packages (RowChanged key before after) =
    let keyed = with_key packages key no_members in
    let none = with_row_value-no_float packages (codes "before") None key before keyed (with_key-no_float packages key no_members refl) in
    with_row_value-no_float packages (codes "after") None key after (with_row_value packages (codes "before") None key before keyed) none

difference-no_float : (packages : List PackageNameOf) (difference : DifferenceOf) → NoFloat (with_difference packages difference no_members)
unfolding with_difference
difference-no_float packages (RowsDiffer rows) =
    put-no_float (codes "rows") (list_data (map (row_change_data packages) rows)) no_members (items-no_float (row_change_data packages) (row_change-no_float packages) rows) refl
difference-no_float packages (ContentsDiffer before after) =
    let none = put-no_float (codes "before") (content_data packages before) no_members (content-no_float packages before) refl in
    put-no_float (codes "after") (content_data packages after) (put (codes "before") (content_data packages before) no_members) (content-no_float packages after) none
difference-no_float packages (FromNothing content) = put-no_float (codes "content") (content_data packages content) no_members (content-no_float packages content) refl

pub change-no_float : (packages : List PackageNameOf) (difference : DifferenceOf) (whole part : List SetOf) → has_float (change_data packages difference whole part) ≡ false
unfolding with_devices
change-no_float packages difference whole part =
    let said = with_difference packages difference no_members in
    let none = put-no_float (codes "devices") (devices_data whole part) said (devices-no_float whole part) (difference-no_float packages difference) in
    put-no_float (codes "on") (text_data (device_words whole part)) (put (codes "devices") (devices_data whole part) said) (text-no_float (device_words whole part)) none
