-- How a loop reads the files of one layer after the other.
use Rattle.std.proofs.Common.{◌≡◌, ◌≢◌, ℕ, ◌+◌, length-append, List, [], ◌∷◌, ◌++◌, map, Option, Some, None, IfSome, Ok, Err, refl, sym, ap, ◌∙◌, length, arith, String}
use Rattle.std.specs.List.{enumerate_from}
use Rattle.std.specs.declared.alloc.Global.{Global}
use Rattle.std.proofs.lemmas.List.{map-append}
use Rattle.contract_words.specs.Sequences.{with_front}
use Rattle.contract_words.proofs.SequenceSteps.{with_front_nil}
use Rattle.json_input.specs.Each.{each}
use Rattle.command_base.specs.declared.fault.ToolFault.TheVariants.{OutOfMemory}
use Rattle.command_base.specs.LayerListSeen.{paths_of}
use Rattle.command_base.specs.StackBytes.{LayerBytes}
use Rattle.command_base.specs.declared.layer_files.LayerBytes as files
use Rattle.command_base.specs.declared.stop.Stop.{Stop}
use Rattle.command_base.specs.Stop.{tool, stop_of}
use Rattle.command_base.specs.Inputs.{Places, layer_of}
use Rattle.command_base.specs.FilesSeen.{layer_held}
use Rattle.json_input.proofs.EachLeft.{left-next, left-stops, left-end}

abbrev pub Paths : Type 0
Paths = String Global × Option (String Global)

-- where it is known what the places have: the layers so far, and those that are left, are all layers
abbrev pub LayersLeft : Option Places → List files.LayerBytes → List Paths → List Paths → Type 0
LayersLeft known so_far left all =
    IfSome known (λ places. with_front (map layer_held so_far) (each (layer_of places) (enumerate_from (length so_far) (map paths_of left))) ≡ each (layer_of places) (enumerate_from 0 (map paths_of all)))

pub LayersLeft-none : (known : Option Places) (all : List Paths) → LayersLeft known [] all all
LayersLeft-none None all = tt
LayersLeft-none (Some places) all = with_front_nil (each (layer_of places) (enumerate_from 0 (map paths_of all)))

pub LayersLeft-next : (known : Option Places) (so_far : List files.LayerBytes) (place : ℕ) (a : Paths) (others all : List Paths) (layer : files.LayerBytes)
    → LayersLeft known so_far (a ∷ others) all → place ≡ length so_far → IfSome known (λ places. layer_of places (place, paths_of a) ≡ Ok (layer_held layer))
    → LayersLeft known (so_far ++ layer ∷ []) others all
LayersLeft-next None so_far place a others all layer before counted given = tt
LayersLeft-next (Some places) so_far place a others all layer before counted given =
    let here = length so_far in
    let more : length (so_far ++ layer ∷ []) ≡ here + 1 = length-append so_far (layer ∷ []) in
    let left = enumerate_from (here + 1) (map paths_of others) in
    let read : layer_of places (here, paths_of a) ≡ Ok (layer_held layer) = ap (λ (n : ℕ). layer_of places (n, paths_of a)) (sym counted) ∙ given in
    ap (λ (n : ℕ). with_front (map layer_held (so_far ++ layer ∷ [])) (each (layer_of places) (enumerate_from n (map paths_of others)))) more
    ∙ ap (λ (held : List LayerBytes). with_front held (each (layer_of places) left)) (map-append layer_held so_far (layer ∷ []))
    ∙ left-next (layer_of places) (map layer_held so_far) (here, paths_of a) left (enumerate_from 0 (map paths_of all)) (layer_held layer) before read

pub LayersLeft-stops : (known : Option Places) (so_far : List files.LayerBytes) (place : ℕ) (a : Paths) (others all : List Paths) (stop : Stop)
    → LayersLeft known so_far (a ∷ others) all → place ≡ length so_far
    → IfSome known (λ places. stop_of stop ≢ tool OutOfMemory → layer_of places (place, paths_of a) ≡ Err (stop_of stop))
    → IfSome known (λ places. stop_of stop ≢ tool OutOfMemory → each (layer_of places) (enumerate_from 0 (map paths_of all)) ≡ Err (stop_of stop))
LayersLeft-stops None so_far place a others all stop before counted given = tt
LayersLeft-stops (Some places) so_far place a others all stop before counted given =
    λ told. left-stops (layer_of places) (map layer_held so_far) (length so_far, paths_of a) (enumerate_from (length so_far + 1) (map paths_of others))
    (enumerate_from 0 (map paths_of all)) (stop_of stop) before
    (ap (λ (n : ℕ). layer_of places (n, paths_of a)) (sym counted) ∙ given told)

pub LayersLeft-end : (known : Option Places) (so_far : List files.LayerBytes) (all : List Paths)
    → LayersLeft known so_far [] all → IfSome known (λ places. each (layer_of places) (enumerate_from 0 (map paths_of all)) ≡ Ok (map layer_held so_far))
LayersLeft-end None so_far all before = tt
LayersLeft-end (Some places) so_far all before = left-end (layer_of places) (map layer_held so_far) (enumerate_from 0 (map paths_of all)) before

pub none_left : {X : Type 0} (xs : List X) → length xs ≡ 0 → xs ≡ []
none_left [] none = refl
none_left (x ∷ xs) none = absurd (omega arith)
