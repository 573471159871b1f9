-- Devices at which a goal ends, in Android's notation: of each those qualifiers that rows of the goal's look-ups have, and where
-- the goal ends. A device is the list of its numbers.
use Rattle.std.specs.Prelude.{ℕ, ◌==◌, not, Bool, List, [], ◌∷◌, ◌++◌, codes, if◌then◌else◌}
use Rattle.std.specs.List.{flat_map, list_any}
use Rattle.config_box.specs.Tests.{ChoiceOf, NumbersOf, LocalesOf, AmongOf}
use Rattle.notation.specs.TestText.{test_text}
use Rattle.reference_resolver.specs.config_precedence.config_record.declared.coord.Coord.{Coord}
use Rattle.reference_resolver.specs.config_precedence.config_record.declared.coord.Coord.TheVariants as coords
use Rattle.reference_resolver.specs.config_precedence.config_record.ComparedNumber.{device_number}
use Rattle.reference_resolver.specs.config_precedence.config_record.Coord.{all_coords}
use Rattle.reference_resolver.specs.config_precedence.config_record.Device.{device_coordinate, device_locale}
use Rattle.res_value.specs.Goal.{GoalSeen}
use Rattle.answer_text.specs.overlay_map.Layer.{LayerOf}
use Rattle.resource_text.specs.GoalLookUps.{goal_ids, id_has}
use Rattle.resource_text.specs.GoalNotation.{goal_end}
use Rattle.resource_text.specs.Naming.{NamingOf}

-- a list of what a device has at a coordinate alone, and its word

abbrev pub alone : Coord → List ℕ → ChoiceOf
alone coords.Locale d = LocalesOf (device_locale d ∷ [])
alone c d = NumbersOf (device_coordinate d c ∷ [])

unfoldable pub word_at : List ℕ → Coord → List ℕ
word_at d c = test_text (AmongOf c (alone c d))

abbrev pub differ_at : List ℕ → List ℕ → Coord → Bool
differ_at d other c = not (device_number d c == device_number other c)

-- ` WORD`, where some row has the qualifier; ` *WORD*`, where another device has another
unfoldable pub qualifier_text : List LayerOf → List ℕ → List ℕ → List ℕ → Coord → List ℕ
qualifier_text stack ids other d c =
    if differ_at d other c then codes " *" ++ word_at d c ++ codes "*"
    else if list_any (id_has stack c) ids then codes " " ++ word_at d c
    else []

abbrev pub or_any : List ℕ → List ℕ
or_any [] = codes " any device"
or_any text = text

unfoldable pub qualifiers_text : List LayerOf → List ℕ → List ℕ → List ℕ → List ℕ
qualifiers_text stack ids other d = flat_map (qualifier_text stack ids other d) all_coords

-- the line `  on WORDS: END`
unfoldable pub device_line : NamingOf → GoalSeen → List ℕ → List ℕ → List ℕ → List ℕ
device_line naming goal ids other d =
    codes "  on" ++ or_any (qualifiers_text naming.stack ids other d) ++ codes ": " ++ goal_end naming d goal ++ 10 ∷ []

-- of one device, and of two that differ

unfoldable pub device_notation : NamingOf → GoalSeen → List ℕ → List ℕ
device_notation naming goal d = device_line naming goal (goal_ids naming.stack goal d) d d

unfoldable pub devices_notation : NamingOf → GoalSeen → List ℕ → List ℕ → List ℕ
devices_notation naming goal x y =
    let ids = goal_ids naming.stack goal x ++ goal_ids naming.stack goal y in
    device_line naming goal ids y x ++ device_line naming goal ids x y
