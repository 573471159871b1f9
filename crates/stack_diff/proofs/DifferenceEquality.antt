-- Differences are equal where they tell the same, and any two are equal or not.
use Rattle.std.proofs.Common.{◌≡◌, ◌≢◌, MatchBool, Bool, true, false, ◌&&◌, ap, sym, ◌∙◌}
use Rattle.std.specs.Bool.{Decides}
use Rattle.std.specs.Cmp.Lexicographic.{pointwise, pointwise_decides}
use Rattle.stack_diff.specs.contracts.difference.DifferencePartialEq.TheImpl.{eq-value}
use Rattle.stack_diff.specs.contracts.difference.RowDifferencePartialEq.TheImpl as rows_eq
use Rattle.stack_diff.specs.declared.difference.Difference.{Difference}
use Rattle.stack_diff.specs.declared.difference.Difference.TheVariants as differences
use Rattle.stack_diff.specs.declared.difference.RowDifference.{RowDifference}
use Rattle.stack_diff.specs.declared.difference.RowDifference.TheVariants as row_differences
use Rattle.answer_text.specs.Content.{RowKeyOf, ValueContentOf}
use Rattle.stack_diff.specs.Difference.{RowDifferenceOf, RowRemoved, RowAdded, RowChanged, DifferenceOf, RowsDiffer, ContentsDiffer, FromNothing}
use Rattle.stack_diff.specs.DifferenceSeen.{row_difference_of, difference_of}
use Rattle.answer_text.proofs.ContentEquality.{both, one_and, same_key, key-Decides, key-told, same_value, value-Decides, value-told, same_row, row-Decides, row-told, rows-told, same_content, content-Decides, content-told}

-- ---- two of their views

abbrev same_row_difference : RowDifferenceOf → RowDifferenceOf → Bool
same_row_difference (RowRemoved a) (RowRemoved b) = same_row a b
same_row_difference (RowAdded a) (RowAdded b) = same_row a b
same_row_difference (RowChanged k v w) (RowChanged l x y) = same_key k l && (same_value v x && same_value w y)
same_row_difference a b = false

row_difference-Decides : (a b : RowDifferenceOf) → Decides (same_row_difference a b) (a ≡ b)
row_difference-Decides (RowRemoved a) (RowRemoved b) = let rows = row-Decides a b in (λ e. ap RowRemoved (rows.0 e), λ e. rows.1 (let same = e in cc))
row_difference-Decides (RowAdded a) (RowAdded b) = let rows = row-Decides a b in (λ e. ap RowAdded (rows.0 e), λ e. rows.1 (let same = e in cc))
row_difference-Decides (RowChanged k v w) (RowChanged l x y) =
    let keyed = key-Decides k l in
    let olds = value-Decides v x in
    let news = value-Decides w y in (
      λ e. (let h = both (same_key k l) (same_value v x && same_value w y) e in
          let valued = both (same_value v x) (same_value w y) h.1 in
          ap (λ (key : RowKeyOf). RowChanged key v w) (keyed.0 h.0)
          ∙ ap (λ (value : ValueContentOf). RowChanged l value w) (olds.0 valued.0)
          ∙ ap (λ (value : ValueContentOf). RowChanged l x value) (news.0 valued.1)),
      λ e. one_and (keyed.1 (let same = e in cc)) (one_and (olds.1 (let same = e in cc)) (news.1 (let same = e in cc))),
    )
row_difference-Decides a b = (λ e. absurd cc, λ e. absurd cc)

abbrev same_difference : DifferenceOf → DifferenceOf → Bool
same_difference (RowsDiffer rows) (RowsDiffer others) = pointwise same_row_difference rows others
same_difference (ContentsDiffer a b) (ContentsDiffer c d) = same_content a c && same_content b d
same_difference (FromNothing a) (FromNothing b) = same_content a b
same_difference a b = false

difference-Decides : (a b : DifferenceOf) → Decides (same_difference a b) (a ≡ b)
difference-Decides (RowsDiffer rows) (RowsDiffer others) =
    let all = pointwise_decides row_difference-Decides rows others in
    (λ e. ap RowsDiffer (all.0 e), λ e. all.1 (let same = e in cc))
difference-Decides (ContentsDiffer a b) (ContentsDiffer c d) =
    let olds = content-Decides a c in
    let news = content-Decides b d in (
      λ e. (let h = both (same_content a c) (same_content b d) e in
          ap (λ content. ContentsDiffer content b) (olds.0 h.0) ∙ ap (λ content. ContentsDiffer c content) (news.0 h.1)),
      λ e. one_and (olds.1 (let same = e in cc)) (news.1 (let same = e in cc)),
    )
difference-Decides (FromNothing a) (FromNothing b) = let all = content-Decides a b in (λ e. ap FromNothing (all.0 e), λ e. all.1 (let same = e in cc))
difference-Decides a b = (λ e. absurd cc, λ e. absurd cc)

-- ---- `==` of two differences

row_difference-told : (a b : RowDifference) → rows_eq.eq-value.it a b ≡ same_row_difference (row_difference_of a) (row_difference_of b)
row_difference-told (row_differences.Removed a) (row_differences.Removed b) = row-told a b
row_difference-told (row_differences.Added a) (row_differences.Added b) = row-told a b
row_difference-told (row_differences.Changed k v w) (row_differences.Changed l x y) = one_and (key-told k l) (one_and (value-told v x) (value-told w y))
row_difference-told a b = cc

is-told : (a b : Difference) → eq-value.it a b ≡ same_difference (difference_of a) (difference_of b)
is-told (differences.Rows s) (differences.Rows t) = rows-told rows_eq.eq-value.it same_row_difference row_difference_of row_difference-told s.items t.items
is-told (differences.Contents a b) (differences.Contents c d) = one_and (content-told a c) (content-told b d)
is-told (differences.FromNothing a) (differences.FromNothing b) = content-told a b
is-told a b = cc

-- what `==` of two differences says
pub told_differences : (a b : Difference) (r : Bool) → r ≡ eq-value.it a b → MatchBool r (difference_of a ≡ difference_of b) (difference_of a ≢ difference_of b)
told_differences a b true e = (difference-Decides (difference_of a) (difference_of b)).0 (sym (e ∙ is-told a b))
told_differences a b false e = λ same. (let yes = (difference-Decides (difference_of a) (difference_of b)).1 same in let no = e ∙ is-told a b in absurd cc)
