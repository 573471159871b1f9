-- Blocks in the order of their bytes.
use Rattle.std.proofs.Common.{◌≡◌, ℕ, Bool, List, [], ◌∷◌, map, inl, inr, refl, ap, ◌∙◌}
use Rattle.std.specs.Cmp.{IsStrictWeakOrder}
use Rattle.std.specs.Cmp.Lexicographic.{nat_list_cmp_total}
use Rattle.std.specs.List.Sorted.{IsSortedBy, IsStableBy}
use Rattle.std.specs.Prelude.{Vec}
use Rattle.std.specs.declared.alloc.Global.{Global}
use Rattle.std.proofs.lemmas.Bool.{cases_Bool}
use Rattle.std.proofs.lemmas.List.Sorted.{ranks_by}
use Rattle.answer_text.specs.InOrder.{placed, in_order}
use Rattle.resource_tool.proofs.InOrder.{sorted_is}
use Rattle.resource_tool.specs.Telling.{is_block_before}

abbrev pub bytes_of : Vec ℕ Global → List ℕ
bytes_of block = block.items

abbrev pub comes_before : Vec ℕ Global → Vec ℕ Global → Bool
comes_before block other = is_block_before block.items other.items

pub blocks_ranked : IsStrictWeakOrder comes_before
blocks_ranked = ranks_by nat_list_cmp_total bytes_of

placed-seen : (block : Vec ℕ Global) (blocks : List (Vec ℕ Global)) → map bytes_of (placed comes_before block blocks) ≡ placed is_block_before block.items (map bytes_of blocks)
placed-seen block [] = refl
placed-seen block (first ∷ blocks) =
    elim (cases_Bool (comes_before first block)) [
      | inl is ↦ rw is (ap (λ (rest : List (List ℕ)). first.items ∷ rest) (placed-seen block blocks))
      | inr is ↦ rw is refl
    ]

in_order-seen : (blocks : List (Vec ℕ Global)) → map bytes_of (in_order comes_before blocks) ≡ in_order is_block_before (map bytes_of blocks)
in_order-seen [] = refl
in_order-seen (block ∷ blocks) =
    placed-seen block (in_order comes_before blocks) ∙ ap (λ (rest : List (List ℕ)). placed is_block_before block.items rest) (in_order-seen blocks)

pub sorted_blocks : (blocks sorted : List (Vec ℕ Global)) → IsSortedBy comes_before sorted → IsStableBy comes_before blocks sorted → map bytes_of sorted ≡ in_order is_block_before (map bytes_of blocks)
sorted_blocks blocks sorted up stable = ap (map bytes_of) (sorted_is comes_before blocks_ranked blocks sorted up stable) ∙ in_order-seen blocks
