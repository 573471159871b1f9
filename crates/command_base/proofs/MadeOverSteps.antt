-- What is made of an overlay over its base: the text of the map alone, or the lines of what it leaves out.
use Rattle.std.proofs.Common.{◌≡◌, ℕ, List, Option, Result, Ok, Err, refl, ap, sym, ◌∙◌}
use Rattle.contract_words.specs.Faults.{◌>>=◌}
use Rattle.command_base.specs.Inputs.{made_json}
use Rattle.command_base.specs.LayerMark.{layer_mark}
use Rattle.command_base.specs.LeftOut.{left_by_map}
use Rattle.command_base.specs.MadeMap.{made_map}
use Rattle.command_base.specs.MadeOver.{MadeOf, made_over}
use Rattle.command_base.specs.MapText.{lines_with, map_text}
use Rattle.command_base.specs.StackBytes.{table_of_layer}
use Rattle.command_base.specs.declared.fault.ToolFault.{ToolFault}
use Rattle.command_base.specs.declared.side.Side.{Side}
use Rattle.command_base.specs.overlay_map.Table.{TableOf}

abbrev made_with : List ℕ → Result TableOf ToolFault → Result TableOf ToolFault → Result MadeOf ToolFault
made_with before target overlay =
    target >>= λ target. overlay >>= λ overlay. Ok (record { json = map_text (made_map target overlay); left = lines_with before overlay (made_map target overlay) })

pub over-tables : (before : List ℕ) (base : ℕ) (target_bytes : List ℕ) (place : ℕ) (bytes : List ℕ) (target overlay : Result TableOf ToolFault)
    → table_of_layer base target_bytes ≡ target → table_of_layer place bytes ≡ overlay → made_over before base target_bytes place bytes ≡ made_with before target overlay
unfolding made_over
over-tables before base target_bytes place bytes target overlay is are = λ k. made_with before (is k) (are k)

-- ---- a part of what is made

abbrev pub part_of : (MadeOf → List ℕ) → Result MadeOf ToolFault → Result (List ℕ) ToolFault
part_of part made = made >>= λ made. Ok (part made)

json_with : (before : List ℕ) (target overlay : Result TableOf ToolFault)
    → (target >>= λ target. overlay >>= λ overlay. Ok (map_text (made_map target overlay))) ≡ part_of (λ made. made.json) (made_with before target overlay)
json_with before (Ok target) (Ok overlay) = refl
json_with before (Ok target) (Err fault) = refl
json_with before (Err fault) overlay = refl

pub over-json : (before : List ℕ) (base : ℕ) (target_bytes : List ℕ) (place : ℕ) (bytes : List ℕ)
    → made_json base target_bytes place bytes ≡ part_of (λ made. made.json) (made_over before base target_bytes place bytes)
unfolding made_json made_over
over-json before base target_bytes place bytes = json_with before (table_of_layer base target_bytes) (table_of_layer place bytes)

left_with : (before : List ℕ) (target overlay : Result TableOf ToolFault)
    → (target >>= λ target. overlay >>= λ overlay. Ok (lines_with before overlay (made_map target overlay))) ≡ part_of (λ made. made.left) (made_with before target overlay)
left_with before (Ok target) (Ok overlay) = refl
left_with before (Ok target) (Err fault) = refl
left_with before (Err fault) overlay = refl

pub over-left : (side : Option Side) (base : ℕ) (target_bytes : List ℕ) (place : ℕ) (bytes mark : List ℕ) (made : Result MadeOf ToolFault)
    → mark ≡ layer_mark side place → made_over mark base target_bytes place bytes ≡ made → left_by_map side base target_bytes place bytes ≡ part_of (λ made. made.left) made
unfolding left_by_map made_over
over-left side base target_bytes place bytes mark made marks is =
    left_with (layer_mark side place) (table_of_layer base target_bytes) (table_of_layer place bytes)
    ∙ ap (λ (mark : List ℕ). part_of (λ made. made.left) (made_with mark (table_of_layer base target_bytes) (table_of_layer place bytes))) (sym marks)
    ∙ ap (part_of (λ made. made.left)) is
