-- How a loop reads the layers of a word one after the other.
use Rattle.std.proofs.Common.{◌≡◌, ◌≢◌, ℕ, Bool, true, false, nat_lt, ◌+◌, ◌<◌, ◌≤◌, List, [], ◌∷◌, ◌++◌, map, drop, length, get_or, Option, Some, None, IfSome, Result, Ok, Err, refl, sym, ap, ◌∙◌}
use Rattle.std.proofs.lemmas.List.{drop_more, drop_all, map-append}
use Rattle.contract_words.specs.Faults.{◌>>=◌, refuse}
use Rattle.command_base.specs.declared.fault.ToolFault.TheVariants as faults
use Rattle.command_base.specs.declared.layers_fault.LayersFault.{LayersFault}
use Rattle.command_base.specs.declared.layers_fault.LayersFault.TheVariants.{TooManyLayers}
use Rattle.command_base.specs.overlay_map.Layer.{most_layers}
use Rattle.command_base.specs.ToolFault.{fault_of_layers}
use Rattle.command_base.specs.declared.fault.ToolFault.TheVariants.{OutOfMemory}
use Rattle.command_base.specs.declared.layer_files.LayerBytes as files
use Rattle.command_base.specs.declared.list_word.ListedLayer as lent
use Rattle.command_base.specs.declared.stop.Stop.{Stop}
use Rattle.command_base.specs.StackBytes.{LayerBytes}
use Rattle.command_base.specs.ListWord.{ListedLayer, layers_in_word}
use Rattle.command_base.specs.ListWordSeen.{listed_of}
use Rattle.command_base.specs.Stop.{StopOf, tool, stop_of}
use Rattle.command_base.specs.Inputs.{Places, layers_named, named_layer, named_layers}
use Rattle.command_base.specs.FilesSeen.{layer_held}

-- where it is known what the places have: what is read of those that are left, behind the layers so far, is what is read of all
abbrev pub NamedLeft : Option Places → List files.LayerBytes → ℕ → List lent.ListedLayer → Type 0
NamedLeft known so_far place layers =
    IfSome known (λ places. named_layers places (map layer_held so_far) (map listed_of (drop place layers)) ≡ named_layers places [] (map listed_of layers))

pub NamedLeft-none : (known : Option Places) (layers : List lent.ListedLayer) → NamedLeft known [] 0 layers
NamedLeft-none None layers = tt
NamedLeft-none (Some places) layers = refl

first-read : (places : Places) (before : List LayerBytes) (layer : ListedLayer) (layers : List ListedLayer) (read : Result LayerBytes StopOf) → named_layer places before layer ≡ read
    → named_layers places before (layer ∷ layers) ≡ (read >>= λ read. named_layers places (before ++ read ∷ []) layers)
unfolding named_layers
first-read places before layer layers read is = ap (λ (r : Result LayerBytes StopOf). r >>= λ read. named_layers places (before ++ read ∷ []) layers) is

here : (places : Places) (before : List LayerBytes) (place : ℕ) (layers : List lent.ListedLayer) (d : lent.ListedLayer) → place < length layers
    → named_layers places before (map listed_of (drop place layers)) ≡ named_layers places before (listed_of (get_or layers place d) ∷ map listed_of (drop (place + 1) layers))
here places before place layers d on = ap (λ (left : List lent.ListedLayer). named_layers places before (map listed_of left)) (drop_more layers place d on)

pub NamedLeft-next : (known : Option Places) (so_far : List files.LayerBytes) (place : ℕ) (layers : List lent.ListedLayer) (d : lent.ListedLayer) (layer : files.LayerBytes)
    → NamedLeft known so_far place layers → place < length layers
    → IfSome known (λ places. named_layer places (map layer_held so_far) (listed_of (get_or layers place d)) ≡ Ok (layer_held layer))
    → NamedLeft known (so_far ++ layer ∷ []) (place + 1) layers
NamedLeft-next None so_far place layers d layer before on read = tt
NamedLeft-next (Some places) so_far place layers d layer before on read =
    let left = map listed_of (drop (place + 1) layers) in
    ap (λ (held : List LayerBytes). named_layers places held left) (map-append layer_held so_far (layer ∷ []))
    ∙ sym (first-read places (map layer_held so_far) (listed_of (get_or layers place d)) left (Ok (layer_held layer)) read)
    ∙ sym (here places (map layer_held so_far) place layers d on)
    ∙ before

pub NamedLeft-stops : (known : Option Places) (so_far : List files.LayerBytes) (place : ℕ) (layers : List lent.ListedLayer) (d : lent.ListedLayer) (stop : Stop)
    → NamedLeft known so_far place layers → place < length layers
    → IfSome known (λ places. stop_of stop ≢ tool OutOfMemory → named_layer places (map layer_held so_far) (listed_of (get_or layers place d)) ≡ Err (stop_of stop))
    → IfSome known (λ places. stop_of stop ≢ tool OutOfMemory → named_layers places [] (map listed_of layers) ≡ Err (stop_of stop))
NamedLeft-stops None so_far place layers d stop before on read = tt
NamedLeft-stops (Some places) so_far place layers d stop before on read = λ told.
    sym before
    ∙ here places (map layer_held so_far) place layers d on
    ∙ first-read places (map layer_held so_far) (listed_of (get_or layers place d)) (map listed_of (drop (place + 1) layers)) (Err (stop_of stop)) (read told)

pub NamedLeft-end : (known : Option Places) (so_far : List files.LayerBytes) (place : ℕ) (layers : List lent.ListedLayer) → NamedLeft known so_far place layers → length layers ≤ place
    → IfSome known (λ places. named_layers places [] (map listed_of layers) ≡ Ok (map layer_held so_far))
unfolding named_layers
NamedLeft-end None so_far place layers before past = tt
NamedLeft-end (Some places) so_far place layers before past =
    sym before ∙ ap (λ (left : List lent.ListedLayer). named_layers places (map layer_held so_far) (map listed_of left)) (drop_all place layers past)

-- ---- whether a word lists too many

not_refused : (many : Bool) → refuse many TooManyLayers ≡ Ok tt → many ≡ false
not_refused true is = absurd cc
not_refused false is = refl

refused_by : (many : Bool) (fault : LayersFault) → refuse many TooManyLayers ≡ Err fault → (many ≡ true) × (fault ≡ TooManyLayers)
refused_by true fault is = (refl, cc)
refused_by false fault is = absurd cc

abbrev within : Bool → Result (List LayerBytes) StopOf → Result (List LayerBytes) StopOf
within many read = refuse many (tool (faults.Layers TooManyLayers)) >>= λ _. read

of-word : (places : Places) (word : List ℕ) (layers : List ListedLayer) (count : ℕ) → layers ≡ layers_in_word word → count ≡ length layers
    → layers_named places word ≡ within (nat_lt most_layers count) (named_layers places [] layers)
unfolding layers_named
of-word places word layers count lists counted =
    ap (λ (layers : List ListedLayer). within (nat_lt most_layers (length layers)) (named_layers places [] layers)) (sym lists)
    ∙ ap (λ (count : ℕ). within (nat_lt most_layers count) (named_layers places [] layers)) (sym counted)

pub named-within : (places : Places) (word : List ℕ) (layers : List ListedLayer) (count : ℕ) (read : Result (List LayerBytes) StopOf) → layers ≡ layers_in_word word → count ≡ length layers
    → Ok tt ≡ refuse (nat_lt most_layers count) TooManyLayers → named_layers places [] layers ≡ read → layers_named places word ≡ read
named-within places word layers count read lists counted few is =
    of-word places word layers count lists counted
    ∙ (λ k. within (not_refused (nat_lt most_layers count) (sym few) k) (is k))

pub named-refused : (places : Places) (word : List ℕ) (layers : List ListedLayer) (count : ℕ) (fault : LayersFault) → layers ≡ layers_in_word word → count ≡ length layers
    → Err fault ≡ refuse (nat_lt most_layers count) TooManyLayers → layers_named places word ≡ Err (tool (fault_of_layers fault))
named-refused places word layers count fault lists counted many =
    let stopped : LayersFault → Result (List LayerBytes) StopOf = λ fault. Err (tool (fault_of_layers fault)) in
    let refused = refused_by (nat_lt most_layers count) fault (sym many) in
    of-word places word layers count lists counted
    ∙ ap (λ (many : Bool). within many (named_layers places [] layers)) refused.0
    ∙ ap stopped (sym refused.1)
