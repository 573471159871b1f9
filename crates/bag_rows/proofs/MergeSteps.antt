-- One row is merged into those that are inherited.
use Rattle.std.proofs.Common.{◌≡◌, ℕ, true, false, ◌==◌, nat_lt, nat_cmp, Equal, List, [], ◌∷◌, ◌++◌, refl, sym, ap, ◌∙◌, append_assoc, arith}
use Rattle.std.proofs.lemmas.Grind.{common_steps}
use Rattle.std.proofs.lemmas.Bool.Decides.{nat_tests}
use Rattle.res_value.specs.declared.res_id.ResId.{ResId}
use Rattle.res_value.specs.declared.value.Value.{Value}
use Rattle.bag_rows.specs.declared.bag_row.BagRow.{BagRow}
use Rattle.bag_rows.specs.Merge.{merge, rows_in}

-- the first of the rows that are left has the same name: the own row stands in its place
pub merged_over : (before rows after inherited left : List BagRow) (first own : BagRow) (rest others : List BagRow)
    → before ++ merge inherited (own ∷ others) ≡ rows ++ merge left (own ∷ others) → left ≡ first ∷ rest → Equal ≡ nat_cmp first.name.0 own.name.0 → after ≡ rows ++ own ∷ []
    → before ++ merge inherited (own ∷ others) ≡ after ++ merge rest others
merged_over before rows after inherited left first own rest others so_far is alike added =
    let same : first.name.0 ≡ own.name.0 = grind (arith, common_steps) in
    let least : nat_lt first.name.0 own.name.0 ≡ false = grind (arith, nat_tests) in
    let named : (first.name.0 == own.name.0) ≡ true = grind (arith, nat_tests) in
    let step : merge left (own ∷ others) ≡ own ∷ merge rest others = rw (is, least, named) refl in
    so_far ∙ ap (λ (t : List BagRow). rows ++ t) step ∙ sym (append_assoc rows (own ∷ []) (merge rest others)) ∙ ap (λ (t : List BagRow). t ++ merge rest others) (sym added)

merge-nothing : (rows : List BagRow) → merge rows [] ≡ rows
merge-nothing [] = refl
merge-nothing (first ∷ rows) = refl

-- no own row is left
pub merged_at_end : (all rows left new : List BagRow) (layer : ℕ) (own : List (ResId × Value)) → all ≡ rows ++ merge left (rows_in layer own) → own ≡ [] → new ≡ rows ++ left → new ≡ all
merged_at_end all rows left new layer own before nothing added =
    added ∙ ap (λ (t : List BagRow). rows ++ t) (sym (merge-nothing left))
    ∙ ap (λ (t : List (ResId × Value)). rows ++ merge left (rows_in layer t)) (sym nothing) ∙ sym before
