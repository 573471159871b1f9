-- How many ids are looked up for a bag.
use Rattle.std.proofs.Common.{◌≡◌, ◌≤◌, ℕ, zero, suc, ◌==◌, Bool, true, false, List, length, refl, arith}
use Rattle.std.specs.Prelude.{Result, Ok, Err}
use Rattle.reference_resolver.specs.overlay_map.Layer.{LayerOf}
use Rattle.reference_resolver.specs.Selection.{selected}
use Rattle.bags_themes.specs.declared.bag_fault.BagFault.{BagFault}
use Rattle.bags_themes.specs.Bag.{FoundBagOf, bag_in}
use Rattle.bags_themes.specs.BagIds.{most_bags, ids_after, bag_ids}

few_by : (stack : List LayerOf) (left : ℕ) (bag : FoundBagOf) (d : List ℕ) (none : Bool) → (bag.parent == 0) ≡ none → length (ids_after stack left (bag_in (selected stack bag.parent d)) d) ≤ left
    → length (ids_after stack (suc left) (Ok bag) d) ≤ suc left
unfolding ids_after
few_by stack left bag d true is few = rw is (omega arith)
few_by stack left bag d false is few = rw is (omega arith)

few_after : (stack : List LayerOf) (left : ℕ) (found : Result FoundBagOf BagFault) (d : List ℕ) → length (ids_after stack left found d) ≤ left
unfolding ids_after
few_after stack zero found d = omega arith
few_after stack (suc left) (Err fault) d = omega arith
few_after stack (suc left) (Ok bag) d = few_by stack left bag d (bag.parent == 0) refl (few_after stack left (bag_in (selected stack bag.parent d)) d)

pub bag_ids_few : (stack : List LayerOf) (id : ℕ) (d : List ℕ) → length (bag_ids stack id d) ≤ 66
bag_ids_few stack id d = omega (arith, few_after stack most_bags (bag_in (selected stack id d)) d)
