-- How the rows of a bag are merged into those that it inherits.
use Rattle.std.specs.Prelude.{◌≡◌, ℕ, List, [], ◌∷◌, ◌++◌, map, nat_lt, ◌==◌, if◌then◌else◌}
use Rattle.res_value.specs.declared.res_id.ResId.{ResId}
use Rattle.res_value.specs.declared.value.Value.{Value}
use Rattle.bag_rows.specs.declared.bag_row.BagRow.{BagRow}

-- the rows of a bag of the layer of this index
abbrev pub rows_in : ℕ → List (ResId × Value) → List BagRow
rows_in layer rows = map (λ row. record { name = row.0; layer = layer; value = row.1 }) rows

-- Inherited rows and own rows, each in their order. An inherited row of a smaller name stands before the first
-- own row; of the same name the own row stands alone; before any other inherited row stands the own one. Nothing
-- is asked of the order of the names.
abbrev pub merge : List BagRow → List BagRow → List BagRow
merge [] own = own
merge (first ∷ inherited) [] = first ∷ inherited
merge (first ∷ inherited) (own_row ∷ own) =
    if nat_lt first.name.0 own_row.name.0 then first ∷ merge inherited (own_row ∷ own)
    else if first.name.0 == own_row.name.0 then own_row ∷ merge inherited own
    else own_row ∷ merge (first ∷ inherited) own

-- One own row was merged: `before` and `inherited` are what was written and what was left before it, `after` and
-- `left` after it. Whatever own rows follow, to go on from either gives the same. Contracts within the crate alone
-- speak of this.
abbrev pub MergesRow : List BagRow → List BagRow → List BagRow → List BagRow → BagRow → Type 0
MergesRow before after inherited left own_row =
    (others : List BagRow) → before ++ merge inherited (own_row ∷ others) ≡ after ++ merge left others
