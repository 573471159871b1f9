-- How the rows of two bags are compared, one after the other.
use Rattle.std.proofs.Common.{◌≡◌, ◌<◌, ℕ, slice_index_or, drop, Bool, true, false, not, List, [], ◌∷◌, ◌++◌, Option, None, Some, refl, sym, ap, ◌∙◌, map, length, arith, append_assoc}
use Rattle.std.specs.Bool.{then_some}
use Rattle.std.specs.Option.{option_map, option_to_list, option_zip}
use Rattle.std.specs.Prelude.{if◌then◌else◌}
use Rattle.std.specs.Ordering.{is_lt, ordering_reverse}
use Rattle.std.specs.declared.cmp.Ordering.{Ordering}
use Rattle.std.specs.declared.cmp.Ordering.TheVariants.{Less, Equal, Greater}
use Rattle.std.proofs.lemmas.List.{map-append, append-nil}
use Rattle.answer_text.specs.declared.content.RowContent.{RowContent}
use Rattle.stack_diff.specs.declared.difference.RowDifference.{RowDifference}
use Rattle.stack_diff.specs.declared.difference.RowDifference.TheVariants as of_row
use Rattle.answer_text.specs.Content.{RowContentOf}
use Rattle.answer_text.specs.ContentSeen.{row_content_of}
use Rattle.answer_text.specs.contracts.content.RowKeyOrd.TheImpl.{cmp-value}
use Rattle.answer_text.specs.ContentSeen.{row_key_of}
use Rattle.answer_text.specs.RowKeys.{is_before}
use Rattle.stack_diff.specs.Difference.{RowDifferenceOf, RowRemoved, RowAdded, changed_row, row_differences}
use Rattle.stack_diff.specs.DifferenceSeen.{row_difference_of, changed_rows}
use Rattle.answer_text.proofs.KeyOrder.{key-ordered, key-antisymm}
use Rattle.stack_diff.proofs.DifferenceTells.{removed_first, added_first, both_first}

-- ---- what is left of two bags

abbrev pub seen : List RowContent → List RowContentOf
seen rows = map row_content_of rows

-- what was told of two bags, and what is left of them, make the whole
pub record RowsAllBut (done : List RowDifference) (left left_after : List RowContent) (whole : List RowDifferenceOf) : Type 0 where
  pub told : map row_difference_of done ++ row_differences (seen left) (seen left_after) ≡ whole

-- all was told
pub rows-done : (done : List RowDifference) (left left_after : List RowContent) (whole : List RowDifferenceOf) → left ≡ [] → left_after ≡ [] → RowsAllBut done left left_after whole
    → map row_difference_of done ≡ whole
unfolding row_differences
rows-done done left left_after whole none none_after so_far =
    sym (append-nil (map row_difference_of done))
    ∙ ap (λ (rows : List RowContent). map row_difference_of done ++ row_differences (seen rows) []) (sym none)
    ∙ ap (λ (rows : List RowContent). map row_difference_of done ++ row_differences (seen left) (seen rows)) (sym none_after)
    ∙ so_far.told

-- ---- the first row

-- The first row, as it is seen before it is taken: it is the one that is taken.
pub record TakesFirst (row : RowContent) (taken : Option RowContent) (left rest : List RowContent) : Type 0 where
  pub is : taken ≡ Some row
  pub left_is : left ≡ row ∷ rest

pub takes-first : (row : RowContent) (taken : Option RowContent) (left rest : List RowContent) → row ≡ slice_index_or left 0 row → taken ≡ Some (slice_index_or left 0 row) → left ≡ option_to_list taken ++ rest
    → TakesFirst row taken left rest
takes-first row taken left rest seen_first value items =
    let is = value ∙ ap (λ (first : RowContent). Some first) (sym seen_first) in
    record { is = is; left_is = items ∙ ap (λ (first : Option RowContent). option_to_list first ++ rest) is }

-- where none stands first none is left
pub no-rows : (left : List RowContent) (n : ℕ) → n ≡ length left → (0 < n → false ≡ true) → left ≡ []
no-rows [] n is none = refl
no-rows (row ∷ left) n is none = let wrong : false ≡ true = none (omega (arith, is)) in absurd cc

-- the one that stands first, and those behind it
pub first-is : (row : RowContent) (left : List RowContent) (n : ℕ) → n ≡ length left → 0 < n → row ≡ slice_index_or left 0 row → left ≡ row ∷ drop 1 left
first-is row [] n is some e = absurd (omega (arith, is, some))
first-is row (first ∷ left) n is some e = ap (λ (r : RowContent). r ∷ left) (sym e)

-- ---- one row more

-- where this stands first of what is left
rows-next : (done more : List RowDifference) (front : List RowDifferenceOf) (left left_after rest rest_after : List RowContent) (whole : List RowDifferenceOf)
    → row_differences (seen left) (seen left_after) ≡ front ++ row_differences (seen rest) (seen rest_after) → map row_difference_of more ≡ map row_difference_of done ++ front
    → RowsAllBut done left left_after whole → RowsAllBut more rest rest_after whole
rows-next done more front left left_after rest rest_after whole split pushed so_far =
    let behind = row_differences (seen rest) (seen rest_after) in
    record {
      told = ap (λ (rows : List RowDifferenceOf). rows ++ behind) pushed
          ∙ append_assoc (map row_difference_of done) front behind
          ∙ ap (λ (rows : List RowDifferenceOf). map row_difference_of done ++ rows) (sym split)
          ∙ so_far.told;
    }

pushed_one : (done more : List RowDifference) (told : RowContent → RowDifference) (row : RowContent) (taken : Option RowContent) → more ≡ done ++ map told (option_to_list taken) → taken ≡ Some row
    → map row_difference_of more ≡ map row_difference_of done ++ row_difference_of (told row) ∷ []
pushed_one done more told row taken e is =
    ap (map row_difference_of) (e ∙ ap (λ (first : Option RowContent). done ++ map told (option_to_list first)) is) ∙ map-append row_difference_of done (told row ∷ [])

alone : (rows : List RowContentOf) → row_differences rows [] ≡ map RowRemoved rows
unfolding row_differences
alone [] = refl
alone (row ∷ rows) = refl

removed_alone : (row : RowContentOf) (rows : List RowContentOf) → row_differences (row ∷ rows) [] ≡ RowRemoved row ∷ row_differences rows []
removed_alone row rows = alone (row ∷ rows) ∙ ap (λ (others : List RowDifferenceOf). RowRemoved row ∷ others) (sym (alone rows))

added_alone : (row : RowContentOf) (rows : List RowContentOf) → row_differences [] (row ∷ rows) ≡ RowAdded row ∷ row_differences [] rows
unfolding row_differences
added_alone row rows = refl

-- the bag after has no more rows
pub row-removed_alone : (done more : List RowDifference) (row : RowContent) (taken : Option RowContent) (left left_after rest : List RowContent) (whole : List RowDifferenceOf) → TakesFirst row taken left rest → left_after ≡ []
    → more ≡ done ++ map of_row.Removed (option_to_list taken) → RowsAllBut done left left_after whole → RowsAllBut more rest left_after whole
row-removed_alone done more row taken left left_after rest whole takes none e so_far =
    let seen_none : seen left_after ≡ [] = ap seen none in
    rows-next done more (RowRemoved (row_content_of row) ∷ []) left left_after rest left_after whole
    (ap (λ (rows : List RowContent). row_differences (seen rows) (seen left_after)) takes.left_is
    ∙ ap (λ (others : List RowContentOf). row_differences (row_content_of row ∷ seen rest) others) seen_none
    ∙ removed_alone (row_content_of row) (seen rest)
    ∙ ap (λ (others : List RowContentOf). RowRemoved (row_content_of row) ∷ row_differences (seen rest) others) (sym seen_none))
    (pushed_one done more of_row.Removed row taken e takes.is) so_far

-- the bag before has no more rows
pub row-added_alone : (done more : List RowDifference) (other : RowContent) (taken : Option RowContent) (left left_after rest_after : List RowContent) (whole : List RowDifferenceOf) → TakesFirst other taken left_after rest_after → left ≡ []
    → more ≡ done ++ map of_row.Added (option_to_list taken) → RowsAllBut done left left_after whole → RowsAllBut more left rest_after whole
row-added_alone done more other taken left left_after rest_after whole takes none e so_far =
    let seen_none : seen left ≡ [] = ap seen none in
    rows-next done more (RowAdded (row_content_of other) ∷ []) left left_after left rest_after whole
    (ap (λ (rows : List RowContent). row_differences (seen left) (seen rows)) takes.left_is
    ∙ ap (λ (others : List RowContentOf). row_differences others (row_content_of other ∷ seen rest_after)) seen_none
    ∙ added_alone (row_content_of other) (seen rest_after)
    ∙ ap (λ (others : List RowContentOf). RowAdded (row_content_of other) ∷ row_differences others (seen rest_after)) (sym seen_none))
    (pushed_one done more of_row.Added other taken e takes.is) so_far

module _ (done more : List RowDifference) (row other : RowContent) (taken taken_after : Option RowContent) (left left_after rest rest_after : List RowContent) (whole : List RowDifferenceOf) where
  abbrev Order : Ordering
  Order = cmp-value.it row.key other.key

  ordered : (order : Ordering) → Order ≡ order → is_before (row_content_of row) (row_content_of other) ≡ is_lt order
  ordered order is = ap is_lt (sym (key-ordered row.key other.key) ∙ is)

  turned : (order : Ordering) → Order ≡ order → is_before (row_content_of other) (row_content_of row) ≡ is_lt (ordering_reverse order)
  turned order is = ap is_lt (key-antisymm (row_key_of other.key) (row_key_of row.key) ∙ ap ordering_reverse (sym (key-ordered row.key other.key) ∙ is))

  firsts : left ≡ row ∷ rest → left_after ≡ other ∷ rest_after → row_differences (seen left) (seen left_after) ≡ row_differences (row_content_of row ∷ seen rest) (row_content_of other ∷ seen rest_after)
  firsts is is_after = ap (λ (rows : List RowContent). row_differences (seen rows) (seen left_after)) is ∙ ap (λ (rows : List RowContent). row_differences (row_content_of row ∷ seen rest) (seen rows)) is_after

  -- a row that the bag after does not have
  pub row-removed : Order ≡ Less → TakesFirst row taken left rest → left_after ≡ other ∷ rest_after → more ≡ done ++ map of_row.Removed (option_to_list taken) → RowsAllBut done left left_after whole
      → RowsAllBut more rest left_after whole
  row-removed less takes is_after e so_far =
      rows-next done more (RowRemoved (row_content_of row) ∷ []) left left_after rest left_after whole
      (firsts takes.left_is is_after
      ∙ removed_first (row_content_of row) (row_content_of other) (seen rest) (seen rest_after) (ordered Less less)
      ∙ ap (λ (rows : List RowContent). RowRemoved (row_content_of row) ∷ row_differences (seen rest) (seen rows)) (sym is_after))
      (pushed_one done more of_row.Removed row taken e takes.is) so_far

  -- a row that the bag before does not have
  pub row-added : Order ≡ Greater → left ≡ row ∷ rest → TakesFirst other taken_after left_after rest_after → more ≡ done ++ map of_row.Added (option_to_list taken_after) → RowsAllBut done left left_after whole
      → RowsAllBut more left rest_after whole
  row-added greater is takes e so_far =
      rows-next done more (RowAdded (row_content_of other) ∷ []) left left_after left rest_after whole
      (firsts is takes.left_is
      ∙ added_first (row_content_of row) (row_content_of other) (seen rest) (seen rest_after) (ordered Greater greater) (turned Greater greater)
      ∙ ap (λ (rows : List RowContent). RowAdded (row_content_of other) ∷ row_differences (seen rows) (seen rest_after)) (sym is))
      (pushed_one done more of_row.Added other taken_after e takes.is) so_far

  -- two rows of one key
  pub row-both : Order ≡ Equal → TakesFirst row taken left rest → TakesFirst other taken_after left_after rest_after
      → map row_difference_of more ≡ map row_difference_of done ++ changed_rows (option_zip taken taken_after) → RowsAllBut done left left_after whole → RowsAllBut more rest rest_after whole
  row-both equal takes takes_after pushed so_far =
      rows-next done more (changed_row (row_content_of row) (row_content_of other)) left left_after rest rest_after whole
      (firsts takes.left_is takes_after.left_is
      ∙ both_first (row_content_of row) (row_content_of other) (seen rest) (seen rest_after) (ordered Equal equal) (turned Equal equal))
      (pushed
      ∙ ap (λ (first : Option RowContent). map row_difference_of done ++ changed_rows (option_zip first taken_after)) takes.is
      ∙ ap (λ (first : Option RowContent). map row_difference_of done ++ changed_rows (option_zip (Some row) first)) takes_after.is)
      so_far

-- ---- what is told unless two are alike

pub told-unless : {X Y : Type 0} (view : X → Y) (x : X) (alike : Bool) → map view (option_to_list (then_some (not alike) x)) ≡ (if alike then [] else view x ∷ [])
told-unless view x true = refl
told-unless view x false = refl

pub some-unless : {X Y : Type 0} (view : X → Y) (x : X) (alike : Bool) → option_map view (then_some (not alike) x) ≡ (if alike then None else Some (view x))
some-unless view x true = refl
some-unless view x false = refl
