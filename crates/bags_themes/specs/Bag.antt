-- Bags (AOSP: ResTable::getBagLocked): the rows of a bag, merged into those of its parents. A device is the list of
-- its numbers.
use Rattle.std.specs.Prelude.{ℕ, zero, suc, ◌==◌, List, [], ◌∷◌, Option, Some, None, Result, Ok, Err, if◌then◌else◌}
use Rattle.std.specs.Result.{result_ok}
use Rattle.contract_words.specs.Faults.{◌>>=◌}
use Rattle.contract_words.specs.Sequences.{with_front}
use Rattle.reference_resolver.specs.res_value.Cell.{CellOf, PlainOf, BagOf}
use Rattle.reference_resolver.specs.overlay_map.Layer.{LayerOf}
use Rattle.reference_resolver.specs.overlay_map.Candidates.{CandOf}
use Rattle.reference_resolver.specs.Selection.{selected}
use Rattle.bag_rows.specs.declared.bag_row.BagRow.{BagRow}
use Rattle.bags_themes.specs.declared.bag_fault.BagFault.{BagFault}
use Rattle.bags_themes.specs.declared.bag_fault.BagFault.TheVariants.{Absent, Plain, BagDepth}
use Rattle.bag_rows.specs.Merge.{merge, rows_in}

-- a bag has no more parents than these
abbrev pub most_parents : ℕ
most_parents = 64

-- ---- one bag

-- A bag that was selected, by its content, not its address: the id of its parent, 0 where it has none, and its
-- own rows.
pub record FoundBagOf : Type 0 where
  pub parent : ℕ
  pub rows : List BagRow

abbrev pub bag_in_cell : ℕ → CellOf → Result FoundBagOf BagFault
bag_in_cell layer (PlainOf value) = Err Plain
bag_in_cell layer (BagOf parent rows) = Ok (record { parent = parent.0; rows = rows_in layer rows })

-- the bag that was selected, or what is wrong: nothing was, or a value
abbrev pub bag_in : Option CandOf → Result FoundBagOf BagFault
bag_in None = Err Absent
bag_in (Some candidate) = bag_in_cell candidate.layer candidate.row.cell

-- ---- a bag and its parents

-- The parent of a bag: none where its id is 0, or where this id selects nothing or a value.
abbrev pub parent_of : List LayerOf → FoundBagOf → List ℕ → Option FoundBagOf
parent_of stack bag d = if bag.parent == 0 then None else result_ok (bag_in (selected stack bag.parent d))

abbrev chain_by : (FoundBagOf → Result (List FoundBagOf) BagFault) → FoundBagOf → Option FoundBagOf → Result (List FoundBagOf) BagFault
chain_by above bag None = Ok (bag ∷ [])
chain_by above bag (Some parent) = with_front (bag ∷ []) (above parent)

-- A bag, its parent, and so on to the topmost one. Refused where there are more than `most` parents.
unfoldable pub chain_of : List LayerOf → ℕ → FoundBagOf → List ℕ → Result (List FoundBagOf) BagFault
chain_of stack zero bag d = chain_by (λ parent. Err BagDepth) bag (parent_of stack bag d)
chain_of stack (suc most) bag d = chain_by (λ parent. chain_of stack most parent d) bag (parent_of stack bag d)

-- ---- the rows

-- Those of a bag, which stands first, are merged into those of its parent, which are merged into those of its own
-- parent, and so on.
abbrev pub merged : List FoundBagOf → List BagRow
merged [] = []
merged (bag ∷ parents) = merge (merged parents) bag.rows

-- The rows of the bag that an id selects, each with the layer of the bag that it came from.
unfoldable pub bag_of : List LayerOf → ℕ → List ℕ → Result (List BagRow) BagFault
bag_of stack id d = do
  bag ← bag_in (selected stack id d)
  chain ← chain_of stack most_parents bag d
  Ok (merged chain)
