-- What an attribute is in a theme (AOSP: ResTable::Theme::getAttribute, and resolveAttributeReference).
use Rattle.std.specs.Prelude.{ℕ, zero, suc, ◌==◌, List, Option, Some, None, if◌then◌else◌}
use Rattle.reference_resolver.specs.res_value.declared.res_id.ResId.{ResId}
use Rattle.reference_resolver.specs.res_value.Kind.{attribute_kind}
use Rattle.reference_resolver.specs.overlay_map.Layer.{LayerOf}
use Rattle.reference_resolver.specs.declared.end.End.{End}
use Rattle.reference_resolver.specs.declared.end.End.TheVariants as of_end
use Rattle.reference_resolver.specs.Ends.{is_reference, end_of}
use Rattle.bag_rows.specs.Undefined.{is_undefined_value}
use Rattle.bag_rows.specs.declared.theme_value.ThemeValue.{ThemeValue}
use Rattle.bags_themes.specs.declared.slot.Slot.{Slot}
use Rattle.bags_themes.specs.declared.slot.Slot.TheVariants.{Refers, Ends}
use Rattle.bags_themes.specs.declared.slot.AttributeStep.{AttributeStep}
use Rattle.bags_themes.specs.declared.slot.AttributeStep.TheVariants.{Follows, Reaches}
use Rattle.bags_themes.specs.Theme.{AttributeValues}

-- how many attributes are followed, at most
abbrev pub attributes_followed : ℕ
attributes_followed = 20

-- how many references are followed after that of a slot, at most; it is the first of twenty
abbrev pub references_after_slot : ℕ
references_after_slot = 19

abbrev step_of_value : ℕ → ThemeValue → AttributeStep
step_of_value attr set =
    if is_undefined_value set then Reaches (Ends (of_end.Absent (record { 0 = attr })))
    else if set.value.kind == attribute_kind then Follows (record { 0 = set.value.word })
    else if is_reference set.value then Reaches (Refers (record { 0 = set.value.word }))
    else Reaches (Ends (of_end.Value set.layer set.value))

-- Where an attribute leads for which this is set: to the attribute that its value names, to the id that a
-- reference names, or to an end. It is absent where it is undefined.
abbrev pub step_of : ℕ → Option ThemeValue → AttributeStep
step_of attr None = Reaches (Ends (of_end.Absent (record { 0 = attr })))
step_of attr (Some set) = step_of_value attr set

abbrev slot_by : (ResId → Slot) → AttributeStep → Slot
slot_by follow (Follows target) = follow target
slot_by follow (Reaches slot) = slot

-- the slot that an attribute reaches, where at most so many attributes are followed
unfoldable pub slot_of : AttributeValues → ℕ → ℕ → Slot
slot_of values zero attr = slot_by (λ target. Ends (of_end.TooLong target)) (step_of attr (values attr))
slot_of values (suc most) attr = slot_by (λ target. slot_of values most target.0) (step_of attr (values attr))

-- where a slot ends
abbrev pub end_of_slot : List LayerOf → Slot → List ℕ → End
end_of_slot stack (Refers target) d = end_of stack references_after_slot target.0 d
end_of_slot stack (Ends end) d = end

-- where an attribute ends
abbrev pub attribute_of : List LayerOf → AttributeValues → ℕ → List ℕ → End
attribute_of stack values attr d = end_of_slot stack (slot_of values attributes_followed attr) d
