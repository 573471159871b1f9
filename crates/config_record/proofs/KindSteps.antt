-- What the kinds of an object's members mean is what the object means.
use Rattle.std.proofs.Common.{◌≡◌, ◌≢◌, IsUtf8, ℕ, ◌<◌, List, [], ◌∷◌, map, get_or, length, Bool, true, false, not, Option, Some, None, option_map, ok_or, Result, Ok, Err, refl, sym, ap, ◌∙◌, if◌then◌else◌}
use Rattle.locales.specs.contract_words.Faults.{◌>>=◌, refuse}
use Rattle.locales.specs.contract_words.Sequences.{with_front}
use Rattle.locales.specs.contract_words.Exact.{GivesOr}
use Rattle.serde_json.specs.Data.{Data}
use Rattle.serde_json.specs.Find.{get}
use Rattle.json_tokens.specs.json.Token.{Token}
use Rattle.json_tokens.specs.json.Lex.{tokens}
use Rattle.json_tokens.specs.json.Json.{parse_map}
use Rattle.json_input.specs.Each.{each}
use Rattle.json_input.specs.Shape.{has_only, number_of, text_of}
use Rattle.json_tokens.specs.Kind.{KindOf, kind_of, number_in, text_in}
use Rattle.json_tokens.specs.Fields.{field, fields}
use Rattle.json_tokens.specs.Standing.{value_at}
use Rattle.json_tokens.proofs.Standing.{mapped-twice}
use Rattle.json_tokens.proofs.Whole.{text-malformed, text-followed, text-means}
use Rattle.json_tokens.proofs.OfKind.{number_in-kind, text_in-kind}
use Rattle.config_record.specs.declared.coord.Coord.{Coord}
use Rattle.config_record.specs.declared.coord.Coord.TheVariants as coords
use Rattle.config_record.specs.declared.fields.DeviceFault.{DeviceFault}
use Rattle.config_record.specs.declared.fields.DeviceFault.TheVariants.{Syntax, Shape, OutOfMemory}
use Rattle.config_record.specs.Coord.{all_coords, place_of, name_of}
use Rattle.config_record.specs.Device.{device_with}
use Rattle.config_record.specs.DeviceJson as json
use Rattle.config_record.specs.DeviceJson.{locale_asked, numbers_asked, device_in_value, device_in_json_by}
use Rattle.config_record.specs.declared.device.Device.{Device}
use Rattle.config_record.specs.DeviceSeen.{device_numbers, seen}
use Rattle.config_record.specs.DeviceKinds.{number_or_0, text_or_empty, kind_at, number_asked, number_asked_at, text_asked, device_of_kinds}
use Rattle.locales.specs.declared.locale_rule.LocaleRule.{LocaleRule}
use Rattle.locales.specs.Text.{locale_by}

-- the kinds of the members of a value, in the order of the coordinates
abbrev kinds_of : Data → List (Option KindOf)
kinds_of value = map (field value) (map name_of all_coords)

kind_at-member : (value : Data) (c : Coord) → kind_at (kinds_of value) c ≡ field value (name_of c)
unfolding all_coords place_of
kind_at-member value coords.Mcc = refl
kind_at-member value c = refl

number-member : (member : Option Data) → number_or_0 (option_map kind_of member) ≡ json.number_or_0 member
number-member None = refl
number-member (Some value) = number_in-kind value

text-member : (member : Option Data) → text_or_empty (option_map kind_of member) ≡ json.text_or_empty member
text-member None = refl
text-member (Some value) = text_in-kind value

number-asked : (c : Coord) (member : Option Data) (value : Data) → get (name_of c) value ≡ member → number_asked c (option_map kind_of member) ≡ json.number_asked value c
unfolding number_asked json.number_asked
number-asked coords.Locale member value e = refl
number-asked c member value e = ap (λ (n : Option ℕ). ok_or n Shape) (number-member member ∙ ap json.number_or_0 (sym e))

number-at : (value : Data) (c : Coord) → number_asked_at (kinds_of value) c ≡ json.number_asked value c
number-at value c = ap (number_asked c) (kind_at-member value c) ∙ number-asked c (get (name_of c) value) value refl

each-same : (f g : Coord → Result ℕ DeviceFault) (cs : List Coord) → ((c : Coord) → f c ≡ g c) → each f cs ≡ each g cs
unfolding each
each-same f g [] same = refl
each-same f g (c ∷ cs) same =
    ap (λ (r : Result ℕ DeviceFault). r >>= λ n. with_front (n ∷ []) (each f cs)) (same c)
    ∙ ap (λ (r : Result (List ℕ) DeviceFault). g c >>= λ n. with_front (n ∷ []) r) (each-same f g cs same)

numbers-kinds : (value : Data) → each (number_asked_at (kinds_of value)) all_coords ≡ numbers_asked value
unfolding numbers_asked
numbers-kinds value = each-same (number_asked_at (kinds_of value)) (json.number_asked value) all_coords (number-at value)

text-kinds : (value : Data) → text_asked (kind_at (kinds_of value) coords.Locale) ≡ locale_asked value
unfolding text_asked locale_asked
text-kinds value =
    ap (λ kind. ok_or (text_or_empty kind) Shape) (kind_at-member value coords.Locale)
    ∙ ap (λ (text : Option (List ℕ)). ok_or text Shape) (text-member (get (name_of coords.Locale) value))

pub device_of_kinds-fields : (rule : LocaleRule) (value : Data) → device_of_kinds rule (fields (map name_of all_coords) value) ≡ device_in_value rule value
unfolding device_of_kinds device_in_value
device_of_kinds-fields rule value = by (has_only (map name_of all_coords) value)
  where
    after : Result (List ℕ) DeviceFault → Result (List ℕ) DeviceFault → Result (List ℕ) DeviceFault
    after numbers text = do
      numbers ← numbers
      text ← text
      device_with numbers (locale_by rule text)

    by : (only : Bool) → device_of_kinds rule (if only then Some (kinds_of value) else None)
        ≡ (refuse (not only) Shape >>= λ _. after (numbers_asked value) (locale_asked value))
    by true = ap (λ numbers. after numbers (text_asked (kind_at (kinds_of value) coords.Locale))) (numbers-kinds value) ∙ ap (after (numbers_asked value)) (text-kinds value)
    by false = refl

-- ---- a text

abbrev names : List (List ℕ)
names = map name_of all_coords

read-as : (rule : LocaleRule) (asked : List (List ℕ)) (o : Option (Data × List Token)) (kinds : Option (List (Option KindOf))) (r : List Token) → asked ≡ names → parse_map (fields asked) o ≡ Some (kinds, r)
    → parse_map (device_in_value rule) o ≡ Some (device_of_kinds rule kinds, r)
read-as rule asked o kinds r same e =
    sym (λ i. parse_map (λ value. device_of_kinds-fields rule value i) o)
    ∙ sym (mapped-twice (device_of_kinds rule) (fields names) o)
    ∙ ap (λ asked. parse_map (device_of_kinds rule) (parse_map (fields asked) o)) (sym same)
    ∙ ap (parse_map (device_of_kinds rule)) e

pub device-malformed : (rule : LocaleRule) (bytes : List ℕ) (ts : List Token) → ts ≡ tokens bytes → value_at 127 ts ≡ None → device_in_json_by rule bytes ≡ Err Syntax
device-malformed rule bytes ts all e = text-malformed (device_in_value rule) Syntax bytes (ap (value_at 127) (sym all) ∙ e)

pub device-followed : (rule : LocaleRule) (asked : List (List ℕ)) (bytes : List ℕ) (ts : List Token) (kinds : Option (List (Option KindOf))) (r : List Token) → asked ≡ names → ts ≡ tokens bytes
    → parse_map (fields asked) (value_at 127 ts) ≡ Some (kinds, r) → r ≢ [] → device_in_json_by rule bytes ≡ Err Syntax
device-followed rule asked bytes ts kinds r same all e more =
    text-followed (device_in_value rule) Syntax bytes (device_of_kinds rule kinds) r (ap (λ s. parse_map (device_in_value rule) (value_at 127 s)) (sym all) ∙ read-as rule asked (value_at 127 ts) kinds r same e) more

pub device-means : (rule : LocaleRule) (asked : List (List ℕ)) (bytes : List ℕ) (ts : List Token) (kinds : Option (List (Option KindOf))) (r : List Token) → asked ≡ names → IsUtf8 bytes → ts ≡ tokens bytes
    → parse_map (fields asked) (value_at 127 ts) ≡ Some (kinds, r) → r ≡ [] → device_in_json_by rule bytes ≡ device_of_kinds rule kinds
device-means rule asked bytes ts kinds r same text all e end =
    text-means (device_in_value rule) Syntax bytes (device_of_kinds rule kinds) text
    (ap (λ s. parse_map (device_in_value rule) (value_at 127 s)) (sym all) ∙ read-as rule asked (value_at 127 ts) kinds r same e ∙ ap (λ s. Some (device_of_kinds rule kinds, s)) end)

pub seen-gives : (r : Result Device DeviceFault) (meant : Result (List ℕ) DeviceFault) → meant ≡ seen r → GivesOr OutOfMemory device_numbers r meant
seen-gives (Ok d) meant e = e
seen-gives (Err fault) meant e = λ _. e
