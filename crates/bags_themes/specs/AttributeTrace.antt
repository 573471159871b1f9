-- The trace of an attribute under styles at a device: what each candidate of the look-ups of the styles does, style by
-- style, up to and with the first that is no bag or has too many parents; then what each does of the reference that
-- the attribute is; and where the attribute ends.
use Rattle.std.specs.Prelude.{ℕ, true, List, [], ◌∷◌, ◌++◌, Result, Ok, Err}
use Rattle.std.specs.List.{flat_map}
use Rattle.reference_resolver.specs.res_value.declared.res_id.ResId.{ResId}
use Rattle.reference_resolver.specs.overlay_map.Layer.{LayerOf}
use Rattle.reference_resolver.specs.declared.end.End.{End}
use Rattle.reference_resolver.specs.declared.end.End.TheVariants as of_end
use Rattle.reference_resolver.specs.declared.step.Step.{Step}
use Rattle.reference_resolver.specs.Selection.{step_of}
use Rattle.reference_resolver.specs.Trace.{Trace, scan_look_up, trace_of}
use Rattle.bag_rows.specs.declared.bag_row.BagRow.{BagRow}
use Rattle.bags_themes.specs.declared.bag_fault.BagFault.{BagFault}
use Rattle.bags_themes.specs.declared.bag_fault.BagFault.TheVariants.{BagDepth}
use Rattle.bags_themes.specs.declared.slot.Slot.{Slot}
use Rattle.bags_themes.specs.declared.slot.Slot.TheVariants.{Refers, Ends}
use Rattle.bags_themes.specs.Bag.{bag_of}
use Rattle.bags_themes.specs.BagIds.{bag_ids}
use Rattle.bags_themes.specs.Theme.{AttributeValues, unset, values_after}
use Rattle.bags_themes.specs.Attribute.{attributes_followed, references_after_slot, slot_of}

-- a trace with these steps before it
abbrev pub behind : List Step → Trace → Trace
behind steps t = record { steps = steps ++ t.steps; end = t.end }

-- a trace that has no steps
abbrev pub ended : End → Trace
ended end = record { steps = []; end = end }

-- what the candidates of these look-ups do
abbrev pub steps_of_ids : List LayerOf → List ℕ → List ℕ → List Step
steps_of_ids stack d ids = flat_map (scan_look_up step_of stack d) ids

-- of what an attribute reaches in a theme: a reference is the first of twenty
abbrev pub slot_trace : List LayerOf → Slot → List ℕ → Trace
slot_trace stack (Refers target) d = trace_of stack references_after_slot target.0 d
slot_trace stack (Ends end) d = ended end

-- Where an attribute ends under a style that has too many parents, or is no bag. Want of memory is no fault of a style.
abbrev pub style_end : ResId → BagFault → End
style_end style BagDepth = of_end.TooLong style
style_end style fault = of_end.Absent style

-- where the bag of a style has these rows, or this fault
abbrev pub style_by : (List BagRow → Trace) → ResId → Result (List BagRow) BagFault → Trace
style_by others style (Ok rows) = others rows
style_by others style (Err fault) = ended (style_end style fault)

-- where the styles are applied with force, and these are the values of attributes before them
unfoldable pub styles_trace : List LayerOf → ℕ → AttributeValues → List ResId → List ℕ → Trace
styles_trace stack attr values [] d = slot_trace stack (slot_of values attributes_followed attr) d
styles_trace stack attr values (style ∷ styles) d =
    behind (steps_of_ids stack d (bag_ids stack style.0 d))
    (style_by (λ rows. styles_trace stack attr (values_after true rows values) styles d) style (bag_of stack style.0 d))

-- where nothing is set before them
abbrev pub attribute_trace : List LayerOf → ℕ → List ResId → List ℕ → Trace
attribute_trace stack attr styles d = styles_trace stack attr unset styles d
