use Rattle.std.proofs.Common.{◌≡◌, ◌++◌, ◌*◌, ◌^◌, ◌≤◌, drop, fold, map, string_bytes}
use Rattle.std.specs.List.{enumerate_from, flat_map, zip}
use Rattle.answer_text.specs.overlay_map.Layer.{by_itself}
use Rattle.resource_tool.specs.UnusedOutput.{is_overlay, layer_lines, totals_of, used_rows, with_row}
use Rattle.resource_tool.specs.UnusedTotals.{IsWithin}
use Rattle.resource_tool.proofs.unused_rows.push_layers.Given as goal

-- of the layers but those that are left the lines were pushed, and their rows were counted
abbrev pub invariant-loop-of_layer : goal.invariant-loop-of_layer
invariant-loop-of_layer l = record {
  apart : l.layers.items ≡ map by_itself l.fn.stack;
  overlays : l.overlays.items ≡ map is_overlay l.fn.stack;
  place : l.place ≡ l.of_layer-index;
  few : l.place ≤ 64;
  text : l.text.items ++ flat_map (layer_lines l.form (map string_bytes l.paths)) (enumerate_from l.place (zip (drop l.place l.fn.stack) (map (λ of_layer. of_layer.items) (drop l.place l.uses))))
      ≡ l.fn.text.items ++ flat_map (layer_lines l.form (map string_bytes l.paths)) (enumerate_from 0 (zip l.fn.stack (map (λ of_layer. of_layer.items) l.uses)));
  counted : fold with_row l.totals (flat_map used_rows (zip (drop l.place l.fn.stack) (map (λ of_layer. of_layer.items) (drop l.place l.uses))))
      ≡ totals_of l.fn.stack (map (λ of_layer. of_layer.items) l.uses);
  within : IsWithin (l.place * 2 ^ 64) l.totals;
}
