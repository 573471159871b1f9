-- How the layers of a list are read.
use Rattle.std.proofs.Common.{◌≡◌, ◌≢◌, IsUtf8, ℕ, ◌+◌, ◌<◌, ◌≤◌, List, [], ◌∷◌, ◌++◌, map, take, get_or, length, nat_lt, Bool, true, false, not, Option, Some, None, option_and_then, ok_or, Result, Ok, Err, refl, sym, ap, ◌∙◌, arith, ◌⊎◌, inl, inr, if◌then◌else◌, codes, length-append, length-take, rules}
use Rattle.std.proofs.lemmas.Bool.{cases_lt, lt-ltb}
use Rattle.std.proofs.lemmas.List.{take_all, take-append-le}
use Rattle.std.specs.Option.{option_map}
use Rattle.command_base.specs.contract_words.Faults.{◌>>=◌, refuse}
use Rattle.serde_json.specs.Data.{Data}
use Rattle.serde_json.specs.Find.{get}
use Rattle.json.specs.Token.{Token}
use Rattle.json.specs.Lex.{tokens}
use Rattle.json.specs.Json.{parse_map, after_end_array}
use Rattle.json.proofs.Grammar.{left}
use Rattle.command_base.specs.json_input.Each.{list_of, each}
use Rattle.command_base.specs.json_input.Shape.{has_only, text_of}
use Rattle.json_tokens.specs.Kind.{KindOf, kind_of, kind_seen, text_in}
use Rattle.json_tokens.specs.declared.kind.Kind.{Kind}
use Rattle.json_tokens.specs.Fields.{field, fields, slots_seen}
use Rattle.json_tokens.specs.Standing.{value_at, items_at}
use Rattle.json_tokens.proofs.Standing.{mapped-twice, list-read, read_some}
use Rattle.json_tokens.proofs.OfKind.{text_in-kind, text-member}
use Rattle.json_tokens.proofs.Whole.{text-malformed, text-followed, text-means}
use Rattle.json_tokens.proofs.EachWalked.{EachWalked, EachWalked-none, EachWalked-next, EachWalked-end, EachWalked-stops, EachWalked-malformed, EachWalked-not_passed}
use Rattle.command_base.specs.overlay_map.Layer.{most_layers}
use Rattle.command_base.specs.declared.layers_fault.LayersFault.{LayersFault}
use Rattle.command_base.specs.declared.layers_fault.LayersFault.TheVariants.{Syntax, Shape, TooManyLayers}
use Rattle.command_base.specs.LayerList.{LayerPaths, path_or_none, table_path, map_path, layer_paths_in, layers_in_value, layers_in}
use Rattle.command_base.specs.LayerKinds.{map_path_of, layer_of_kinds, kept_layers, kept_list}

-- ---- one layer

-- the files of a layer, by the kinds of its members where there are no others
abbrev pub layer_of_members : Option (List (Option KindOf)) → Result LayerPaths LayersFault
layer_of_members (Some (table ∷ map ∷ [])) = ok_or (layer_of_kinds table map) Shape
layer_of_members _ = Err Shape

after : Option (List ℕ) → Result (Option (List ℕ)) LayersFault → Result LayerPaths LayersFault
after table map = do
  table ← ok_or table Shape
  map ← map
  Ok (record { table = table; map = map })

map-text : (table : List ℕ) (text other : Option (List ℕ)) → other ≡ text
    → ok_or (option_map (λ map. record { table = table; map = map }) (option_map (λ path. Some path) other)) Shape ≡ after (Some table) (ok_or (option_map (λ path. Some path) text) Shape)
unfolding after
map-text table None other e = rw e refl
map-text table (Some path) other e = rw e refl

with-table : (table found : Option (List ℕ)) (member : Option Data) → found ≡ table
    → ok_or (option_and_then (λ table. option_map (λ map. record { table = table; map = map }) (map_path_of (option_map kind_of member))) found) Shape ≡ after table (path_or_none member)
unfolding after
with-table None found member e = rw e refl
with-table (Some table) found None e = rw e refl
with-table (Some table) found (Some value) e = rw e (map-text table (text_of value) (text_in (kind_of value)) (text_in-kind value))

members-mean : (table map : Option Data) → ok_or (layer_of_kinds (option_map kind_of table) (option_map kind_of map)) Shape ≡ after (option_and_then text_of table) (path_or_none map)
unfolding layer_of_kinds
members-mean table map = with-table (option_and_then text_of table) (option_and_then text_in (option_map kind_of table)) map (sym (text-member table))

abbrev names : List (List ℕ)
names = codes "table" ∷ codes "map" ∷ []

layer_of_members-fields : (value : Data) → layer_of_members (fields names value) ≡ layer_paths_in value
unfolding layer_paths_in table_path map_path after
layer_of_members-fields value = by (has_only names value)
  where
    by : (only : Bool) → layer_of_members (if only then Some (map (field value) names) else None) ≡ (refuse (not only) Shape >>= λ _. after (option_and_then text_of (get (codes "table") value)) (path_or_none (get (codes "map") value)))
    by true = members-mean (get (codes "table") value) (get (codes "map") value)
    by false = refl

pub layer-read : (o : Option (Data × List Token)) (members : Option (List (Option KindOf))) (r : List Token) → parse_map (fields names) o ≡ Some (members, r)
    → parse_map layer_paths_in o ≡ Some (layer_of_members members, r)
layer-read o members r e =
    sym (λ i. parse_map (λ value. layer_of_members-fields value i) o)
    ∙ sym (mapped-twice layer_of_members (fields names) o)
    ∙ ap (parse_map layer_of_members) e

-- two slots
pub two-members : (slots : List (Option Kind)) → length slots ≡ 2
    → layer_of_members (Some (slots_seen slots)) ≡ ok_or (layer_of_kinds (option_map kind_seen (get_or slots 0 None)) (option_map kind_seen (get_or slots 1 None))) Shape
two-members [] e = absurd (omega arith)
two-members (table ∷ []) e = absurd (omega arith)
two-members (table ∷ map ∷ []) e = refl
two-members (table ∷ map ∷ other ∷ others) e = absurd (omega arith)

-- ---- a list whose front is kept

pub record KeptWalked (depth : ℕ) (start : List Token) (kept : List LayerPaths) (now : List Token) : Type 0 where
  pub so_far : List LayerPaths
  pub walked : EachWalked layer_paths_in depth start so_far now
  pub front : kept ≡ take 65 so_far

pub KeptWalked-none : (depth : ℕ) (start : List Token) → KeptWalked depth start [] start
KeptWalked-none depth start = record { so_far = []; walked = EachWalked-none layer_paths_in depth start; front = refl }

pub KeptWalked-next : (depth : ℕ) (start now r : List Token) (kept : List LayerPaths) (layer : LayerPaths) → KeptWalked depth start kept now → after_end_array now ≡ None
    → parse_map layer_paths_in (value_at depth now) ≡ Some (Ok layer, r) → length kept ≤ 64 → KeptWalked depth start (kept ++ layer ∷ []) r
KeptWalked-next depth start now r kept layer so going e few =
    let count : length kept ≡ length (take 65 so.so_far) = ap length so.front in
    let short : length so.so_far ≤ 64 = omega (arith, count, length-take 65 so.so_far) in
    let all : take 65 so.so_far ≡ so.so_far = take_all 65 so.so_far (omega arith) in
    record {
      so_far = so.so_far ++ layer ∷ [];
      walked = EachWalked-next layer_paths_in depth start now r so.so_far layer so.walked going e;
      front = ap (λ ls. ls ++ layer ∷ []) (so.front ∙ all) ∙ sym (take_all 65 (so.so_far ++ layer ∷ []) (omega (arith, length-append so.so_far (layer ∷ []))));
    }

pub KeptWalked-over : (depth : ℕ) (start now r : List Token) (kept : List LayerPaths) (layer : LayerPaths) → KeptWalked depth start kept now → after_end_array now ≡ None
    → parse_map layer_paths_in (value_at depth now) ≡ Some (Ok layer, r) → 64 < length kept → KeptWalked depth start kept r
KeptWalked-over depth start now r kept layer so going e many =
    let count : length kept ≡ length (take 65 so.so_far) = ap length so.front in
    let long : 65 ≤ length so.so_far = omega (arith, count, length-take 65 so.so_far) in
    record {
      so_far = so.so_far ++ layer ∷ [];
      walked = EachWalked-next layer_paths_in depth start now r so.so_far layer so.walked going e;
      front = so.front ∙ sym (take-append-le 65 so.so_far (layer ∷ []) long);
    }

keep : Result (List LayerPaths) LayersFault → Result (List LayerPaths) LayersFault
keep layers = layers >>= λ layers. Ok (take 65 layers)

kept-as : (o : Option (List Data × List Token)) (layers : Result (List LayerPaths) LayersFault) (r : List Token) → parse_map (each layer_paths_in) o ≡ Some (layers, r) → parse_map kept_layers o ≡ Some (keep layers, r)
unfolding kept_layers keep
kept-as o layers r e = sym (mapped-twice keep (each layer_paths_in) o) ∙ ap (parse_map keep) e

pub KeptWalked-end : (depth : ℕ) (start now r : List Token) (kept : List LayerPaths) → KeptWalked depth start kept now → after_end_array now ≡ Some r → parse_map kept_layers (items_at depth start) ≡ Some (Ok kept, r)
unfolding keep
KeptWalked-end depth start now r kept so e =
    kept-as (items_at depth start) (Ok so.so_far) r (EachWalked-end layer_paths_in depth start now r so.so_far so.walked e) ∙ ap (λ (ls : List LayerPaths). Some (Ok ls, r)) (sym so.front)

pub KeptWalked-stops : (depth : ℕ) (start now s r : List Token) (kept : List LayerPaths) (fault : LayersFault) → KeptWalked depth start kept now → after_end_array now ≡ None
    → parse_map layer_paths_in (value_at depth now) ≡ Some (Err fault, s) → left (items_at depth s) ≡ Some r → parse_map kept_layers (items_at depth start) ≡ Some (Err fault, r)
unfolding keep
KeptWalked-stops depth start now s r kept fault so going e passed =
    kept-as (items_at depth start) (Err fault) r (EachWalked-stops layer_paths_in depth start now s r so.so_far fault so.walked going e passed)

pub KeptWalked-malformed : (depth : ℕ) (start now : List Token) (kept : List LayerPaths) → KeptWalked depth start kept now → after_end_array now ≡ None → value_at depth now ≡ None → items_at depth start ≡ None
KeptWalked-malformed depth start now kept so going e = EachWalked-malformed layer_paths_in depth start now so.so_far so.walked going e

pub KeptWalked-not_passed : (depth : ℕ) (start now s : List Token) (kept : List LayerPaths) (layer : Result LayerPaths LayersFault) → KeptWalked depth start kept now → after_end_array now ≡ None
    → parse_map layer_paths_in (value_at depth now) ≡ Some (layer, s) → items_at depth s ≡ None → items_at depth start ≡ None
KeptWalked-not_passed depth start now s kept layer so going e none = EachWalked-not_passed layer_paths_in depth start now s so.so_far layer so.walked going e none

-- ---- the whole list

pub list-kept : (depth inner : ℕ) (ts s r : List Token) (kept : Result (List LayerPaths) LayersFault)
    → parse_map list_of (value_at depth ts) ≡ parse_map {A = List Data} Some (items_at inner s) → parse_map kept_layers (items_at inner s) ≡ Some (kept, r)
    → parse_map kept_list (value_at depth ts) ≡ Some (kept, r)
list-kept depth inner ts s r kept entered e =
    let items = read_some kept_layers (items_at inner s) kept r e in
    let meant : Option (List Data) → Result (List LayerPaths) LayersFault = λ items. ok_or items Shape >>= kept_layers in
    list-read meant depth inner ts s r items.0 entered items.1 ∙ ap (λ y. Some (y, r)) items.2

pub no_list : (depth : ℕ) (ts r : List Token) → parse_map list_of (value_at depth ts) ≡ Some (None, r) → parse_map kept_list (value_at depth ts) ≡ Some (Err Shape, r)
no_list depth ts r e =
    let meant : Option (List Data) → Result (List LayerPaths) LayersFault = λ items. ok_or items Shape >>= kept_layers in
    sym (mapped-twice meant list_of (value_at depth ts)) ∙ ap (parse_map meant) e

-- the layers, where there are not too many
abbrev pub counted : Result (List LayerPaths) LayersFault → Result (List LayerPaths) LayersFault
counted layers = layers >>= λ layers. refuse (nat_lt most_layers (length layers)) TooManyLayers >>= λ _. Ok layers

-- what comes of them, by their count
pub counted-by : (layers : List LayerPaths) (count : ℕ) (r : Result (Unit {0}) LayersFault) → length layers ≡ count → r ≡ refuse (nat_lt most_layers count) TooManyLayers
    → counted (Ok layers) ≡ (r >>= λ _. Ok layers)
counted-by layers count r same is =
    ap (λ n. refuse (nat_lt most_layers n) TooManyLayers >>= λ _. Ok layers) same ∙ ap (λ (r : Result (Unit {0}) LayersFault). r >>= λ _. Ok layers) (sym is)

within : (layers : List LayerPaths) → counted (Ok (take 65 layers)) ≡ counted (Ok layers)
within layers = by (cases_lt 64 (length layers))
  where
    by : (64 < length layers) ⊎ (length layers ≤ 64) → counted (Ok (take 65 layers)) ≡ counted (Ok layers)
    by (inl over) =
        let still : 64 < length (take 65 layers) = omega (arith, over, length-take 65 layers) in
        rw (lt-ltb 64 (length layers) over, lt-ltb 64 (length (take 65 layers)) still) refl
    by (inr few) = ap (λ ls. counted (Ok ls)) (take_all 65 layers (omega arith))

counted-kept : (layers : Result (List LayerPaths) LayersFault) → counted (keep layers) ≡ counted layers
unfolding keep
counted-kept (Ok layers) = within layers
counted-kept (Err fault) = refl

layers_in_value-kept : (value : Data) → counted (kept_list value) ≡ layers_in_value value
unfolding kept_layers layers_in_value keep
layers_in_value-kept value = by (list_of value)
  where
    by : (items : Option (List Data)) → counted (ok_or items Shape >>= λ items. keep (each layer_paths_in items)) ≡ (ok_or items Shape >>= λ items. counted (each layer_paths_in items))
    by None = refl
    by (Some items) = counted-kept (each layer_paths_in items)

list-read_as : (o : Option (Data × List Token)) (kept : Result (List LayerPaths) LayersFault) (r : List Token) → parse_map kept_list o ≡ Some (kept, r) → parse_map layers_in_value o ≡ Some (counted kept, r)
list-read_as o kept r e =
    sym (λ i. parse_map (λ value. layers_in_value-kept value i) o)
    ∙ sym (mapped-twice counted kept_list o)
    ∙ ap (parse_map counted) e

-- ---- a text

pub layers-malformed : (bytes : List ℕ) (ts : List Token) → ts ≡ tokens bytes → value_at 127 ts ≡ None → layers_in bytes ≡ Err Syntax
layers-malformed bytes ts all e = text-malformed layers_in_value Syntax bytes (ap (value_at 127) (sym all) ∙ e)

pub layers-followed : (bytes : List ℕ) (ts : List Token) (kept : Result (List LayerPaths) LayersFault) (r : List Token) → ts ≡ tokens bytes
    → parse_map kept_list (value_at 127 ts) ≡ Some (kept, r) → r ≢ [] → layers_in bytes ≡ Err Syntax
layers-followed bytes ts kept r all e more =
    text-followed layers_in_value Syntax bytes (counted kept) r (ap (λ s. parse_map layers_in_value (value_at 127 s)) (sym all) ∙ list-read_as (value_at 127 ts) kept r e) more

pub layers-mean : (bytes : List ℕ) (ts : List Token) (kept : Result (List LayerPaths) LayersFault) (r : List Token) → IsUtf8 bytes → ts ≡ tokens bytes
    → parse_map kept_list (value_at 127 ts) ≡ Some (kept, r) → r ≡ [] → layers_in bytes ≡ counted kept
layers-mean bytes ts kept r text all e end =
    text-means layers_in_value Syntax bytes (counted kept) text
    (ap (λ s. parse_map layers_in_value (value_at 127 s)) (sym all) ∙ list-read_as (value_at 127 ts) kept r e ∙ ap (λ s. Some (counted kept, s)) end)

pub ruleset layer_steps = (layer-read, KeptWalked-none, KeptWalked-next, KeptWalked-over, KeptWalked-end, KeptWalked-stops, KeptWalked-malformed, KeptWalked-not_passed, list-kept, no_list, layers-malformed, layers-followed, layers-mean)
