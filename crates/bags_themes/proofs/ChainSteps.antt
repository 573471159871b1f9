-- How the chain of a bag goes on, and how the rows of one are merged.
use Rattle.std.proofs.Common.{◌≡◌, ℕ, zero, suc, ◌-◌, ◌<◌, List, [], ◌∷◌, ◌++◌, Some, None, refl, sym, ap, ◌∙◌, append_assoc, arith}
use Rattle.std.specs.Prelude.{Result, Ok, Err}
use Rattle.std.proofs.lemmas.List.{map-append}
use Rattle.contract_words.specs.Sequences.{with_front}
use Rattle.reference_resolver.specs.overlay_map.Layer.{LayerOf}
use Rattle.bags_themes.specs.declared.bag_fault.BagFault.{BagFault}
use Rattle.bags_themes.specs.declared.bag_fault.BagFault.TheVariants.{BagDepth}
use Rattle.bag_rows.specs.declared.bag_row.BagRow.{BagRow}
use Rattle.bags_themes.specs.declared.found_bag.FoundBag.{FoundBag}
use Rattle.bags_themes.specs.FoundBag.{found_bag_of, found_bags_of}
use Rattle.bag_rows.specs.Merge.{merge}
use Rattle.bags_themes.specs.Bag.{FoundBagOf, parent_of, chain_of, merged}

-- the topmost bag
pub chain_of-top : (stack : List LayerOf) (most : ℕ) (bag : FoundBagOf) (d : List ℕ) → parent_of stack bag d ≡ None → chain_of stack most bag d ≡ Ok (bag ∷ [])
unfolding chain_of
chain_of-top stack zero bag d e = rw e refl
chain_of-top stack (suc most) bag d e = rw e refl

-- a parent too many
pub chain_of-deep : (stack : List LayerOf) (most : ℕ) (bag parent : FoundBagOf) (d : List ℕ) → parent_of stack bag d ≡ Some parent → most ≡ 0 → chain_of stack most bag d ≡ Err BagDepth
unfolding chain_of
chain_of-deep stack most bag parent d e none = rw (none, e) refl

pub chain_of-next : (stack : List LayerOf) (most : ℕ) (bag parent : FoundBagOf) (d : List ℕ) → parent_of stack bag d ≡ Some parent → 0 < most
    → chain_of stack most bag d ≡ with_front (bag ∷ []) (chain_of stack (most - 1) parent d)
unfolding chain_of
chain_of-next stack zero bag parent d e some = absurd (omega arith)
chain_of-next stack (suc most) bag parent d e some =
    let same : suc most - 1 ≡ most = omega arith in rw (same, e) refl

-- ---- a loop over a chain: `bags` were found, `next` of them with this one

pub twice : {X E : Type 0} (a b : List X) (r : Result (List X) E) → with_front a (with_front b r) ≡ with_front (a ++ b) r
twice {X} {E} a b (Ok xs) = let ok : List X → Result (List X) E = λ t. Ok t in ap ok (sym (append_assoc a b xs))
twice a b (Err fault) = refl

pub ends_at : (stack : List LayerOf) (left : ℕ) (bag : FoundBagOf) (d : List ℕ) (bags next : List FoundBagOf) (all : Result (List FoundBagOf) BagFault)
    → with_front bags (chain_of stack left bag d) ≡ all → next ≡ bags ++ bag ∷ [] → parent_of stack bag d ≡ None → all ≡ Ok next
ends_at stack left bag d bags next all before added e =
    let here : with_front bags (chain_of stack left bag d) ≡ Ok (bags ++ bag ∷ []) = rw (chain_of-top stack left bag d e) refl in
    let ok : List FoundBagOf → Result (List FoundBagOf) BagFault = λ t. Ok t in
    sym before ∙ here ∙ ap ok (sym added)

pub too_deep_at : (stack : List LayerOf) (left : ℕ) (bag parent : FoundBagOf) (d : List ℕ) (bags : List FoundBagOf) (all : Result (List FoundBagOf) BagFault)
    → with_front bags (chain_of stack left bag d) ≡ all → parent_of stack bag d ≡ Some parent → left ≡ 0 → all ≡ Err BagDepth
too_deep_at stack left bag parent d bags all before e none =
    let here : with_front bags (chain_of stack left bag d) ≡ Err BagDepth = rw (chain_of-deep stack left bag parent d e none) refl in
    sym before ∙ here

pub goes_on_at : (stack : List LayerOf) (left : ℕ) (bag parent : FoundBagOf) (d : List ℕ) (bags next : List FoundBagOf) (all : Result (List FoundBagOf) BagFault)
    → with_front bags (chain_of stack left bag d) ≡ all → next ≡ bags ++ bag ∷ [] → parent_of stack bag d ≡ Some parent → 0 < left
    → with_front next (chain_of stack (left - 1) parent d) ≡ all
goes_on_at stack left bag parent d bags next all before added e some =
    ap (λ (t : List FoundBagOf). with_front t (chain_of stack (left - 1) parent d)) added
    ∙ sym (twice bags (bag ∷ []) (chain_of stack (left - 1) parent d))
    ∙ ap (λ (r : Result (List FoundBagOf) BagFault). with_front bags r) (sym (chain_of-next stack left bag parent d e some))
    ∙ before

-- ---- rows

-- the rows of a chain, merged onto these
abbrev pub merged_onto : List BagRow → List FoundBagOf → List BagRow
merged_onto top [] = top
merged_onto top (bag ∷ parents) = merge (merged_onto top parents) bag.rows

pub merged_onto-nothing : (chain : List FoundBagOf) → merged_onto [] chain ≡ merged chain
merged_onto-nothing [] = refl
merged_onto-nothing (bag ∷ parents) = ap (λ (t : List BagRow). merge t bag.rows) (merged_onto-nothing parents)

-- those of the last bag of a chain are merged first
merged_onto-last : (chain : List FoundBagOf) (bag : FoundBagOf) (rows : List BagRow) → merged_onto rows (chain ++ bag ∷ []) ≡ merged_onto (merge rows bag.rows) chain
merged_onto-last [] bag rows = refl
merged_onto-last (first ∷ chain) bag rows = ap (λ (t : List BagRow). merge t first.rows) (merged_onto-last chain bag rows)

pub merged_next : (chain next : List FoundBagOf) (bag : FoundBagOf) (rows merged all : List BagRow) → merged_onto rows chain ≡ all → chain ≡ next ++ bag ∷ [] → merged ≡ merge rows bag.rows
    → merged_onto merged next ≡ all
merged_next chain next bag rows merged all before popped e =
    ap (λ (t : List BagRow). merged_onto t next) e
    ∙ sym (merged_onto-last next bag rows)
    ∙ ap (λ (t : List FoundBagOf). merged_onto rows t) (sym popped)
    ∙ before

-- ---- found bags, as contracts see them

pub found_bags_of-last : (all front : List FoundBag) (last : FoundBag) → all ≡ front ++ last ∷ [] → found_bags_of all ≡ found_bags_of front ++ found_bag_of last ∷ []
found_bags_of-last all front last e = ap found_bags_of e ∙ map-append found_bag_of front (last ∷ [])
