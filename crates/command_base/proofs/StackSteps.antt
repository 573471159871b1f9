-- How a loop opens one layer after the other.
use Rattle.std.proofs.Common.{◌≡◌, ℕ, ◌+◌, ◌<◌, ◌≤◌, List, [], ◌∷◌, ◌++◌, map, length, drop, get_or, Option, Result, Ok, Err, refl, sym, ap, ◌∙◌, append_assoc, length-append, arith}
use Rattle.std.proofs.lemmas.List.{append-nil, drop_more, drop_all}
use Rattle.std.specs.Borrow.{Bor}
use Rattle.command_base.specs.contract_words.Faults.{◌>>=◌}
use Rattle.command_base.specs.contract_words.Sequences.{with_front}
use Rattle.command_base.specs.overlay_map.IdMap.{MapOf}
use Rattle.command_base.specs.overlay_map.Layer.{LayerOf}
use Rattle.command_base.specs.overlay_map.Table.{TableOf}
use Rattle.command_base.specs.declared.fault.ToolFault.{ToolFault}
use Rattle.command_base.specs.StackBytes.{LayerBytes, layer_in, layers_from, map_of_layer, table_of_layer}
use Rattle.command_base.specs.StackBytesSeen.{layer_bytes, with_layer}

-- a layer, as its bytes are lent
abbrev pub Lent : Type 0
Lent = Bor (List ℕ) × Option (Bor (List ℕ))

-- The layers before a place stand on the stack, and with those from that place on they are all.
pub record OpensAllBut (stack : List LayerOf) (place : ℕ) (layers : List Lent) : Type 0 where
  pub count : length stack ≡ place
  pub others : with_front stack (layers_from place (map layer_bytes (drop place layers))) ≡ layers_from 0 (map layer_bytes layers)

with_front-nil : (r : Result (List LayerOf) ToolFault) → with_front [] r ≡ r
with_front-nil (Ok xs) = refl
with_front-nil (Err e) = refl

with_front-twice : (a b : List LayerOf) (r : Result (List LayerOf) ToolFault) → with_front a (with_front b r) ≡ with_front (a ++ b) r
with_front-twice a b (Ok xs) = let wrapped : List LayerOf → Result (List LayerOf) ToolFault = λ t. Ok t in ap wrapped (sym (append_assoc a b xs))
with_front-twice a b (Err e) = refl

pub OpensAllBut-none : (layers : List Lent) → OpensAllBut [] 0 layers
OpensAllBut-none layers = record { count = refl; others = with_front-nil (layers_from 0 (map layer_bytes layers)) }

-- the first of some layers
first-ok : (place : ℕ) (bytes : LayerBytes) (others : List LayerBytes) (layer : LayerOf) → layer_in place bytes ≡ Ok layer
    → layers_from place (bytes ∷ others) ≡ with_front (layer ∷ []) (layers_from (place + 1) others)
unfolding layers_from
first-ok place bytes others layer given = ap (λ (r : Result LayerOf ToolFault). r >>= (λ layer. with_front (layer ∷ []) (layers_from (place + 1) others))) given

first-err : (place : ℕ) (bytes : LayerBytes) (others : List LayerBytes) (e : ToolFault) → layer_in place bytes ≡ Err e → layers_from place (bytes ∷ others) ≡ Err e
unfolding layers_from
first-err place bytes others e given = ap (λ (r : Result LayerOf ToolFault). r >>= (λ layer. with_front (layer ∷ []) (layers_from (place + 1) others))) given

-- what is read from a place on, where a layer stands there
from_place : (stack : List LayerOf) (place : ℕ) (layers : List Lent) (d : Lent) → place < length layers
    → with_front stack (layers_from place (map layer_bytes (drop place layers))) ≡ with_front stack (layers_from place (layer_bytes (get_or layers place d) ∷ map layer_bytes (drop (place + 1) layers)))
from_place stack place layers d on = ap (λ (lent : List Lent). with_front stack (layers_from place (map layer_bytes lent))) (drop_more layers place d on)

-- a layer that was read, pushed onto the stack
pushed : (stack new : List LayerOf) (r : Result LayerOf ToolFault) → with_layer stack r ≡ Ok new → (layer : LayerOf) × (r ≡ Ok layer) × (new ≡ stack ++ layer ∷ [])
pushed stack new (Ok layer) e = (layer, refl, cc)
pushed stack new (Err fault) e = absurd cc

not_pushed : (stack : List LayerOf) (r : Result LayerOf ToolFault) (e : ToolFault) → with_layer stack r ≡ Err e → r ≡ Err e
not_pushed stack (Ok layer) e given = absurd cc
not_pushed stack (Err fault) e given = cc

pub OpensAllBut-next : (stack new : List LayerOf) (place : ℕ) (layers : List Lent) (d : Lent) → OpensAllBut stack place layers → place < length layers
    → with_layer stack (layer_in (length stack) (layer_bytes (get_or layers place d))) ≡ Ok new
    → OpensAllBut new (place + 1) layers
OpensAllBut-next stack new place layers d before on given =
    let bytes = layer_bytes (get_or layers place d) in
    let read = pushed stack new (layer_in (length stack) bytes) given in
    let layer = read.0 in
    let left = layers_from (place + 1) (map layer_bytes (drop (place + 1) layers)) in
    let at_place : layer_in place bytes ≡ Ok layer = ap (λ (n : ℕ). layer_in n bytes) (sym before.count) ∙ read.1 in
    let counted : length (stack ++ layer ∷ []) ≡ place + 1 = simp length-append (omega (arith, before.count)) in
    record {
      count = ap (λ (ls : List LayerOf). length ls) read.2 ∙ counted;
      others =
          ap (λ (front : List LayerOf). with_front front left) read.2
          ∙ sym (with_front-twice stack (layer ∷ []) left)
          ∙ ap (with_front stack) (sym (first-ok place bytes (map layer_bytes (drop (place + 1) layers)) layer at_place))
          ∙ sym (from_place stack place layers d on)
          ∙ before.others;
    }

pub OpensAllBut-stops : (stack : List LayerOf) (place : ℕ) (layers : List Lent) (d : Lent) (e : ToolFault) → OpensAllBut stack place layers → place < length layers
    → with_layer stack (layer_in (length stack) (layer_bytes (get_or layers place d))) ≡ Err e
    → layers_from 0 (map layer_bytes layers) ≡ Err e
OpensAllBut-stops stack place layers d e before on given =
    let bytes = layer_bytes (get_or layers place d) in
    let at_place : layer_in place bytes ≡ Err e = ap (λ (n : ℕ). layer_in n bytes) (sym before.count) ∙ not_pushed stack (layer_in (length stack) bytes) e given in
    sym before.others
    ∙ from_place stack place layers d on
    ∙ ap (with_front stack) (first-err place bytes (map layer_bytes (drop (place + 1) layers)) e at_place)

pub OpensAllBut-end : (stack : List LayerOf) (place : ℕ) (layers : List Lent) → OpensAllBut stack place layers → length layers ≤ place → layers_from 0 (map layer_bytes layers) ≡ Ok stack
unfolding layers_from
OpensAllBut-end stack place layers before past =
    let wrapped : List LayerOf → Result (List LayerOf) ToolFault = λ layers. Ok layers in
    let none : layers_from place (map layer_bytes (drop place layers)) ≡ Ok [] = ap (λ (lent : List Lent). layers_from place (map layer_bytes lent)) (drop_all place layers past) in
    sym before.others
    ∙ ap (with_front stack) none
    ∙ ap wrapped (append-nil stack)

-- ---- one layer

abbrev layer_with : Result TableOf ToolFault → Result (Option MapOf) ToolFault → Result LayerOf ToolFault
layer_with table map = table >>= λ table. map >>= λ map. Ok (record { table = table; map = map })

-- a layer, of whose parts this is read
pub of-parts : (stack : List LayerOf) (place : ℕ) (bytes : LayerBytes) (table : Result TableOf ToolFault) (map : Result (Option MapOf) ToolFault) → place ≡ length stack
    → table_of_layer place bytes.table ≡ table → map_of_layer place bytes.map ≡ map → with_layer stack (layer_in (length stack) bytes) ≡ with_layer stack (layer_with table map)
unfolding layer_in
of-parts stack place bytes table map at is are =
    ap (λ (place : ℕ). with_layer stack (layer_in place bytes)) (sym at) ∙ (λ k. with_layer stack (layer_with (is k) (are k)))

pub ruleset stack_steps = (OpensAllBut-none, OpensAllBut-next, OpensAllBut-stops, OpensAllBut-end)
