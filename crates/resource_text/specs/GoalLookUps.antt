-- The ids that are looked up for a goal at a device, which is the list of its numbers, and the qualifiers of their rows.
use Rattle.std.specs.Prelude.{ℕ, ◌==◌, ◌^◌, nat_le, not, Bool, true, List, [], ◌∷◌, ◌++◌, Result, Ok, Err, is_ok, if◌then◌else◌}
use Rattle.std.specs.List.{list_any}
use Rattle.reference_resolver.specs.config_precedence.config_record.declared.coord.Coord.{Coord}
use Rattle.reference_resolver.specs.config_precedence.config_record.declared.coord.Coord.TheVariants as coords
use Rattle.reference_resolver.specs.config_precedence.config_record.ComparedNumber.{record_number}
use Rattle.reference_resolver.specs.config_precedence.config_record.Record.{coordinate}
use Rattle.res_value.specs.Goal.{GoalSeen, IdGoal, AttrGoal}
use Rattle.res_value.specs.declared.res_id.ResId.{ResId}
use Rattle.answer_text.specs.overlay_map.Layer.{LayerOf}
use Rattle.answer_text.specs.overlay_map.Candidates.{candidates_of}
use Rattle.reference_resolver.specs.Ends.{references_followed}
use Rattle.reference_resolver.specs.Trace.{look_ups_of}
use Rattle.answer_text.specs.bags_themes.declared.bag_fault.BagFault.{BagFault}
use Rattle.answer_text.specs.bags_themes.declared.slot.Slot.{Slot}
use Rattle.answer_text.specs.bags_themes.declared.slot.Slot.TheVariants.{Refers, Ends}
use Rattle.answer_text.specs.bags_themes.Attribute.{attributes_followed, references_after_slot, slot_of}
use Rattle.answer_text.specs.bags_themes.Bag.{bag_of}
use Rattle.answer_text.specs.bags_themes.BagIds.{bag_ids}
use Rattle.answer_text.specs.bags_themes.Styles.{values_after_styles}
use Rattle.answer_text.specs.bags_themes.Theme.{AttributeValues, unset}

-- ---- the look-ups

-- those of styles and their parents, up to the first style that is refused
unfoldable pub style_ids : List LayerOf → List ℕ → List ResId → List ℕ
style_ids stack d [] = []
style_ids stack d (style ∷ styles) = bag_ids stack style.0 d ++ (if is_ok (bag_of stack style.0 d) then style_ids stack d styles else [])

-- those of the reference that an attribute is
abbrev pub slot_ids : List LayerOf → List ℕ → Slot → List ℕ
slot_ids stack d (Refers target) = look_ups_of stack references_after_slot target.0 d
slot_ids stack d (Ends end) = []

-- in the theme that styles build, if none is refused
abbrev pub theme_ids : List LayerOf → ℕ → List ℕ → Result AttributeValues BagFault → List ℕ
theme_ids stack attr d (Ok values) = slot_ids stack d (slot_of values attributes_followed attr)
theme_ids stack attr d (Err fault) = []

unfoldable pub goal_ids : List LayerOf → GoalSeen → List ℕ → List ℕ
goal_ids stack (IdGoal id) d = look_ups_of stack references_followed id.0 d
goal_ids stack (AttrGoal attr styles) d =
    style_ids stack d styles ++ theme_ids stack attr.0 d (values_after_styles stack true styles unset d)

-- ---- their rows

-- a configuration has this qualifier: as the locale a language or a region
unfoldable pub has_qualifier : List ℕ → Coord → Bool
has_qualifier r coords.Locale = nat_le (2 ^ 32) (record_number r coords.Locale)
has_qualifier r c = not (coordinate r c == 0)

-- a row has it that may stand for an id
abbrev pub id_has : List LayerOf → Coord → ℕ → Bool
id_has stack c id = list_any (λ candidate. has_qualifier candidate.row.config c) (candidates_of stack id)
