-- Layers that have the same bytes.
use Rattle.std.proofs.Common.{◌≡◌, ℕ, ◌&&◌, Bool, true, List, [], ◌∷◌, Option, Some, None, map, refl, sym, ap, nat_eq}
use Rattle.std.proofs.lemmas.Bool.{and_parts}
use Rattle.std.specs.Borrow.{Bor}
use Rattle.std.specs.Option.{option_eq}
use Rattle.std.specs.Str.{bytes_eq}
use Rattle.std.specs.Cmp.Lexicographic.{pointwise, same_text}
use Rattle.command_base.specs.StackBytes.{LayerBytes}
use Rattle.command_base.specs.StackBytesSeen.{layer_bytes}
use Rattle.resource_tool.specs.DiffInputs.{is_same_layer, have_same_bytes}

abbrev pub Lent : Type 0
Lent = Bor (List ℕ) × Option (Bor (List ℕ))

abbrev pub lent_eq : Bor (List ℕ) → Bor (List ℕ) → Bool
lent_eq x y = pointwise nat_eq x.now y.now

abbrev pub parts_eq : Lent → Lent → Bool
parts_eq x y = lent_eq x.0 y.0 && option_eq lent_eq x.1 y.1

map-seen : (old new : Option (Bor (List ℕ))) (table : Bool) (a b : Bor (List ℕ)) → option_eq lent_eq old new ≡ option_eq bytes_eq (layer_bytes (a, old)).map (layer_bytes (b, new)).map
map-seen None None table a b = refl
map-seen None (Some new) table a b = refl
map-seen (Some old) None table a b = refl
map-seen (Some old) (Some new) table a b = refl

pub same-seen : (old new : List Lent) → pointwise parts_eq old new ≡ have_same_bytes (map layer_bytes old) (map layer_bytes new)
unfolding have_same_bytes
same-seen [] [] = refl
same-seen [] (n ∷ new) = refl
same-seen (o ∷ old) [] = refl
same-seen (o ∷ old) (n ∷ new) = λ i. (lent_eq o.0 n.0 && map-seen o.1 n.1 true o.0 n.0 i) && same-seen old new i

same-map : (old new : Option (List ℕ)) → option_eq bytes_eq old new ≡ true → new ≡ old
same-map None None e = refl
same-map None (Some new) e = absurd cc
same-map (Some old) None e = absurd cc
same-map (Some old) (Some new) e = ap (λ (b : List ℕ). Some b) (sym (same_text old new (sym e)))

same-layer : (old new : LayerBytes) → is_same_layer old new ≡ true → new ≡ old
same-layer old new e =
    let parts = and_parts (bytes_eq old.table new.table) (option_eq bytes_eq old.map new.map) e in
    let table = sym (same_text old.table new.table (sym parts.0)) in
    let maps = same-map old.map new.map parts.1 in
    λ i. record { table = table i; map = maps i }

-- a list is one alone
pub same-bytes : (old new : List LayerBytes) → have_same_bytes old new ≡ true → new ≡ old
unfolding have_same_bytes
same-bytes [] [] e = refl
same-bytes [] (n ∷ new) e = absurd cc
same-bytes (o ∷ old) [] e = absurd cc
same-bytes (o ∷ old) (n ∷ new) e =
    let parts = and_parts (is_same_layer o n) (pointwise is_same_layer old new) e in
    let first = same-layer o n parts.0 in
    let others = same-bytes old new parts.1 in
    λ i. first i ∷ others i
