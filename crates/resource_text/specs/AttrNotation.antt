-- Which style sets an attribute at a device, which is the list of its numbers, and where the attribute ends, in Android's notation.
use Rattle.std.specs.Prelude.{ℕ, ◌==◌, ◌&&◌, ◌||◌, not, Bool, true, false, List, [], ◌∷◌, ◌++◌, codes, map, Option, Some, None, Result, Ok, Err, if◌then◌else◌}
use Rattle.std.specs.List.{flat_map, fold}
use Rattle.res_value.specs.Kind.{null_kind, empty_word}
use Rattle.res_value.specs.declared.res_id.ResId.{ResId}
use Rattle.answer_text.specs.overlay_map.Layer.{LayerOf}
use Rattle.reference_resolver.specs.declared.end.End.{End}
use Rattle.reference_resolver.specs.declared.end.End.TheVariants as of_end
use Rattle.reference_resolver.specs.Trace.{look_ups_of}
use Rattle.answer_text.specs.bag_rows.declared.bag_row.BagRow.{BagRow}
use Rattle.answer_text.specs.bags_themes.declared.bag_fault.BagFault.{BagFault}
use Rattle.answer_text.specs.bags_themes.declared.slot.Slot.{Slot}
use Rattle.answer_text.specs.bags_themes.declared.slot.Slot.TheVariants.{Refers, Ends}
use Rattle.answer_text.specs.bags_themes.Attribute.{references_after_slot}
use Rattle.answer_text.specs.bags_themes.Bag.{bag_of}
use Rattle.resource_text.specs.declared.attribute.Setting.{Setting}
use Rattle.resource_text.specs.declared.attribute.Setting.TheVariants.{NotSet, First, TookOver, KeptOut}
use Rattle.resource_text.specs.declared.attribute.StyleStep.{StyleStep}
use Rattle.resource_text.specs.Naming.{NamingOf, id_notation, value_at, layer_notation}
use Rattle.resource_text.specs.EndNotation.{end_notation, end_within}
use Rattle.resource_text.specs.ExplainNotation.{look_up_notation}
use Rattle.resource_text.specs.Columns.{LineOf, columns_text}

-- ---- rows that set the attribute

-- null, but not empty (Theme.antt of bags_themes)
abbrev pub is_undefined : BagRow → Bool
is_undefined row = row.value.kind == null_kind && not (row.value.word == empty_word)

-- with force any row sets its attribute; without, only where it is undefined so far
abbrev pub may_set : Bool → Option BagRow → Bool
may_set force None = true
may_set force (Some set) = force || is_undefined set

-- what an attribute is set by after a row, and after some
unfoldable pub set_after : Bool → ℕ → Option BagRow → BagRow → Option BagRow
set_after force attr set row = if row.name.0 == attr && may_set force set then Some row else set

abbrev pub set_after_rows : Bool → ℕ → Option BagRow → List BagRow → Option BagRow
set_after_rows force attr set rows = fold (set_after force attr) set rows

-- ---- styles

abbrev pub rows_or_none : Result (List BagRow) BagFault → List BagRow
rows_or_none (Ok rows) = rows
rows_or_none (Err fault) = []

-- the rows of a style; one that is refused has none
abbrev pub rows_of_style : List LayerOf → List ℕ → ResId → List BagRow
rows_of_style stack d style = rows_or_none (bag_of stack style.0 d)

-- what a style does whose own row this is, where that set the attribute before it
unfoldable pub setting_of : Bool → Option BagRow → Option BagRow → Setting
setting_of force set None = NotSet
setting_of force None (Some own) = First
setting_of force (Some set) (Some own) = if may_set force (Some set) then TookOver else KeptOut

-- a style with these rows, of which the own one would set the attribute if nothing had, where this set it before them
abbrev pub style_step : Bool → ℕ → Option BagRow → ResId → List BagRow → StyleStep
style_step force attr set style rows =
    let own = set_after_rows force attr None rows in record { style = style; own = own; setting = setting_of force set own }

-- styles in their order, where this set the attribute before them
abbrev pub style_steps : List LayerOf → List ℕ → Bool → ℕ → Option BagRow → List ResId → List StyleStep
style_steps stack d force attr set [] = []
style_steps stack d force attr set (style ∷ styles) =
    style_step force attr set style (rows_of_style stack d style)
    ∷ style_steps stack d force attr (set_after_rows force attr set (rows_of_style stack d style)) styles

-- ---- the lines of styles

unfoldable pub setting_words : Setting → List ℕ
setting_words NotSet = codes "not set"
setting_words First = codes "first"
setting_words TookOver = codes "took over"
setting_words KeptOut = codes "kept out: set already"

abbrev pub own_value : NamingOf → Option BagRow → List ℕ
own_value naming None = []
own_value naming (Some own) = value_at naming own.layer own.value

abbrev pub own_layer : NamingOf → Option BagRow → List ℕ
own_layer naming None = []
own_layer naming (Some own) = layer_notation naming own.layer

-- the line `  STYLE  VALUE  LAYER  DECISION`
unfoldable pub style_line : NamingOf → StyleStep → LineOf
style_line naming step = record {
  layer = id_notation naming step.style.0;
  config = own_value naming step.own;
  value = own_layer naming step.own;
  decision = setting_words step.setting;
}

-- ---- the end

-- a value of a style has no row of its own, so its layer alone is told
unfoldable pub slot_end : NamingOf → End → List ℕ
slot_end naming (of_end.Value layer value) = value_at naming layer value ++ codes " from " ++ layer_notation naming layer
slot_end naming end = end_notation naming None end

-- the look-ups of what a style refers to, and the end
unfoldable pub slot_notation : NamingOf → List ℕ → Slot → List ℕ
slot_notation naming d (Refers target) =
    flat_map (look_up_notation naming false d) (look_ups_of naming.stack references_after_slot target.0 d)
    ++ end_within naming references_after_slot d target.0
slot_notation naming d (Ends end) = slot_end naming end

-- The line of the attribute, those of styles that are applied to nothing, and how what they set comes to its end.
unfoldable pub attr_notation : NamingOf → Bool → ℕ → List ℕ → List ResId → Slot → List ℕ
attr_notation naming force attr d styles slot =
    id_notation naming attr ++ 10 ∷ [] ++ columns_text (map (style_line naming) (style_steps naming.stack d force attr None styles)) ++ slot_notation naming d slot ++ 10 ∷ []
