-- There is no difference exactly where a device reads the same of both.
use Rattle.std.proofs.Common.{◌≡◌, ℕ, Bool, true, false, ◌==◌, List, [], ◌∷◌, ◌++◌, map, Some, None, inl, inr, refl, sym, ap, ◌∙◌, eqb-true, eq-eqb}
use Rattle.std.specs.Prelude.{if◌then◌else◌}
use Rattle.std.specs.Bool.{Decides}
use Rattle.std.specs.Ordering.{is_lt, ordering_reverse}
use Rattle.std.specs.declared.cmp.Ordering.{Ordering}
use Rattle.std.specs.declared.cmp.Ordering.TheVariants.{Less, Equal, Greater}
use Rattle.std.proofs.lemmas.Bool.{cases_Bool}
use Rattle.std.proofs.lemmas.Slice.Eq.{bytes_eq-Decides}
use Rattle.answer_text.specs.res_value.declared.value.Value.{Value}
use Rattle.names.specs.Label.{is_same}
use Rattle.answer_text.specs.Content.{ValueContentOf, StringOf, GarbledOf, BrokenOf, ReferenceOf, AttributeOf, OtherOf, RowKeyOf, RowContentOf, ContentOf, ValueOf, BagOf, AbsentOf, TooManyReferencesOf, TooManyParentsOf}
use Rattle.answer_text.specs.ReadWord.{kind_read, word_read}
use Rattle.answer_text.specs.ReadAlike.{read, value_read, row_read, content_read, are_read_alike, are_alike}
use Rattle.answer_text.specs.RowKeys.{key_cmp, is_before}
use Rattle.stack_diff.specs.Difference.{RowDifferenceOf, RowRemoved, RowAdded, RowChanged, changed_row, row_differences, DifferenceOf, of_rows, difference}
use Rattle.stack_diff.specs.DifferenceLaw.{DifferenceTells}
use Rattle.answer_text.proofs.ContentEquality.{both, one_and, label-Decides, broken-Decides}
use Rattle.answer_text.proofs.KeyOrder.{key-antisymm, key-itself, key-exact}

-- ---- keys

not_both : (b : Bool) → b ≡ true → b ≡ false → ⊥
not_both b is not = absurd cc

one_by : (a b : RowKeyOf) (order : Ordering) → key_cmp a b ≡ order → is_lt (key_cmp a b) ≡ false → is_lt (key_cmp b a) ≡ false → a ≡ b
one_by a b Less is not nor = absurd (not_both (is_lt (key_cmp a b)) (ap is_lt is) not)
one_by a b Equal is not nor = key-exact a b is
one_by a b Greater is not nor = absurd (not_both (is_lt (key_cmp b a)) (ap is_lt (key-antisymm b a ∙ ap ordering_reverse is)) nor)

-- of two keys neither of which is before the other, both are one
one_key : (a b : RowKeyOf) → is_lt (key_cmp a b) ≡ false → is_lt (key_cmp b a) ≡ false → a ≡ b
one_key a b not nor = one_by a b (key_cmp a b) refl not nor

-- and one key is not before itself
not_before : (row other : RowContentOf) → row.key ≡ other.key → is_before row other ≡ false
not_before row other same = ap (λ (key : RowKeyOf). is_lt (key_cmp row.key key)) (sym same) ∙ ap is_lt (key-itself row.key)

-- ---- values

read-Decides : (a b : Value) → Decides (are_read_alike a b) (read a ≡ read b)
read-Decides a b = (
  λ e. (let h = both (kind_read a.kind == kind_read b.kind) (word_read a.kind a.word == word_read b.kind b.word) e in
      let of_kind : ℕ → Value = λ n. record { kind = n; word = word_read a.kind a.word } in
      let of_word : ℕ → Value = λ n. record { kind = kind_read b.kind; word = n } in
      ap of_kind (eqb-true (kind_read a.kind) (kind_read b.kind) h.0) ∙ ap of_word (eqb-true (word_read a.kind a.word) (word_read b.kind b.word) h.1)),
  λ e. one_and (eq-eqb (kind_read a.kind) (kind_read b.kind) (ap (λ (v : Value). v.kind) e)) (eq-eqb (word_read a.kind a.word) (word_read b.kind b.word) (ap (λ (v : Value). v.word) e)),
)

pub alike-Decides : (a b : ValueContentOf) → Decides (are_alike a b) (value_read a ≡ value_read b)
unfolding are_alike
alike-Decides (StringOf a) (StringOf b) = let h = bytes_eq-Decides a b in (λ e. ap StringOf (h.0 e), λ e. h.1 (let same = e in cc))
alike-Decides (GarbledOf a) (GarbledOf b) = let h = bytes_eq-Decides a b in (λ e. ap GarbledOf (h.0 e), λ e. h.1 (let same = e in cc))
alike-Decides (BrokenOf a) (BrokenOf b) = let h = broken-Decides a b in (λ e. ap BrokenOf (h.0 e), λ e. h.1 (let same = e in cc))
alike-Decides (ReferenceOf a) (ReferenceOf b) = let h = label-Decides a b in (λ e. ap ReferenceOf (h.0 e), λ e. h.1 (let same = e in cc))
alike-Decides (AttributeOf a) (AttributeOf b) = let h = label-Decides a b in (λ e. ap AttributeOf (h.0 e), λ e. h.1 (let same = e in cc))
alike-Decides (OtherOf a) (OtherOf b) = let h = read-Decides a b in (λ e. ap OtherOf (h.0 e), λ e. h.1 (let same = e in cc))
alike-Decides (StringOf a) (GarbledOf b) = (λ e. absurd cc, λ e. absurd cc)
alike-Decides (StringOf a) (BrokenOf b) = (λ e. absurd cc, λ e. absurd cc)
alike-Decides (StringOf a) (ReferenceOf b) = (λ e. absurd cc, λ e. absurd cc)
alike-Decides (StringOf a) (AttributeOf b) = (λ e. absurd cc, λ e. absurd cc)
alike-Decides (StringOf a) (OtherOf b) = (λ e. absurd cc, λ e. absurd cc)
alike-Decides (GarbledOf a) (StringOf b) = (λ e. absurd cc, λ e. absurd cc)
alike-Decides (GarbledOf a) (BrokenOf b) = (λ e. absurd cc, λ e. absurd cc)
alike-Decides (GarbledOf a) (ReferenceOf b) = (λ e. absurd cc, λ e. absurd cc)
alike-Decides (GarbledOf a) (AttributeOf b) = (λ e. absurd cc, λ e. absurd cc)
alike-Decides (GarbledOf a) (OtherOf b) = (λ e. absurd cc, λ e. absurd cc)
alike-Decides (BrokenOf a) (StringOf b) = (λ e. absurd cc, λ e. absurd cc)
alike-Decides (BrokenOf a) (GarbledOf b) = (λ e. absurd cc, λ e. absurd cc)
alike-Decides (BrokenOf a) (ReferenceOf b) = (λ e. absurd cc, λ e. absurd cc)
alike-Decides (BrokenOf a) (AttributeOf b) = (λ e. absurd cc, λ e. absurd cc)
alike-Decides (BrokenOf a) (OtherOf b) = (λ e. absurd cc, λ e. absurd cc)
alike-Decides (ReferenceOf a) (StringOf b) = (λ e. absurd cc, λ e. absurd cc)
alike-Decides (ReferenceOf a) (GarbledOf b) = (λ e. absurd cc, λ e. absurd cc)
alike-Decides (ReferenceOf a) (BrokenOf b) = (λ e. absurd cc, λ e. absurd cc)
alike-Decides (ReferenceOf a) (AttributeOf b) = (λ e. absurd cc, λ e. absurd cc)
alike-Decides (ReferenceOf a) (OtherOf b) = (λ e. absurd cc, λ e. absurd cc)
alike-Decides (AttributeOf a) (StringOf b) = (λ e. absurd cc, λ e. absurd cc)
alike-Decides (AttributeOf a) (GarbledOf b) = (λ e. absurd cc, λ e. absurd cc)
alike-Decides (AttributeOf a) (BrokenOf b) = (λ e. absurd cc, λ e. absurd cc)
alike-Decides (AttributeOf a) (ReferenceOf b) = (λ e. absurd cc, λ e. absurd cc)
alike-Decides (AttributeOf a) (OtherOf b) = (λ e. absurd cc, λ e. absurd cc)
alike-Decides (OtherOf a) (StringOf b) = (λ e. absurd cc, λ e. absurd cc)
alike-Decides (OtherOf a) (GarbledOf b) = (λ e. absurd cc, λ e. absurd cc)
alike-Decides (OtherOf a) (BrokenOf b) = (λ e. absurd cc, λ e. absurd cc)
alike-Decides (OtherOf a) (ReferenceOf b) = (λ e. absurd cc, λ e. absurd cc)
alike-Decides (OtherOf a) (AttributeOf b) = (λ e. absurd cc, λ e. absurd cc)

-- ---- what stands first

pub removed_first : (row other : RowContentOf) (before after : List RowContentOf) → is_before row other ≡ true
    → row_differences (row ∷ before) (other ∷ after) ≡ RowRemoved row ∷ row_differences before (other ∷ after)
unfolding row_differences
removed_first row other before after is = rw is refl

pub added_first : (row other : RowContentOf) (before after : List RowContentOf) → is_before row other ≡ false → is_before other row ≡ true
    → row_differences (row ∷ before) (other ∷ after) ≡ RowAdded other ∷ row_differences (row ∷ before) after
unfolding row_differences
added_first row other before after not is = rw (not, is) refl

pub both_first : (row other : RowContentOf) (before after : List RowContentOf) → is_before row other ≡ false → is_before other row ≡ false
    → row_differences (row ∷ before) (other ∷ after) ≡ changed_row row other ++ row_differences before after
unfolding row_differences
both_first row other before after not nor = rw (not, nor) refl

-- ---- rows

some_row : (row : RowDifferenceOf) (rows : List RowDifferenceOf) → row ∷ rows ≡ [] → ⊥
some_row row rows none = absurd cc

some_read : (row : RowContentOf) (rows : List RowContentOf) → row ∷ rows ≡ [] → ⊥
some_read row rows none = absurd cc

no_rows : (front behind : List RowDifferenceOf) → front ++ behind ≡ [] → (front ≡ []) × (behind ≡ [])
no_rows [] behind none = (refl, none)
no_rows (row ∷ front) behind none = absurd (some_row row (front ++ behind) none)

told_unless : (same : Bool) (row : RowDifferenceOf) → (if same then [] else row ∷ []) ≡ [] → same ≡ true
told_unless true row none = refl
told_unless false row none = absurd (some_row row [] none)

one_row : (a b : RowContentOf) → a.key ≡ b.key → value_read a.value ≡ value_read b.value → row_read a ≡ row_read b
one_row a b key value =
    let keyed : RowKeyOf → RowContentOf = λ k. record { key = k; value = value_read a.value } in
    let valued : ValueContentOf → RowContentOf = λ v. record { key = b.key; value = v } in
    ap keyed key ∙ ap valued value

changed_none : (before after : RowContentOf) → changed_row before after ≡ [] → value_read before.value ≡ value_read after.value
changed_none before after none = (alike-Decides before.value after.value).0 (told_unless (are_alike before.value after.value) _ none)

rows-tell : (before after : List RowContentOf) → row_differences before after ≡ [] → map row_read before ≡ map row_read after
unfolding row_differences
rows-tell [] [] none = refl
rows-tell [] (row ∷ after) none = absurd (some_row _ _ none)
rows-tell (row ∷ before) [] none = absurd (some_row _ _ none)
rows-tell (row ∷ before) (other ∷ after) none =
    elim (cases_Bool (is_before row other)) [
      | inl first ↦ absurd (some_row _ _ (sym (removed_first row other before after first) ∙ none))
      | inr not ↦ elim (cases_Bool (is_before other row)) [
        | inl first ↦ absurd (some_row _ _ (sym (added_first row other before after not first) ∙ none))
        | inr nor ↦ (let parts = no_rows (changed_row row other) (row_differences before after) (sym (both_first row other before after not nor) ∙ none) in
            let same = one_row row other (one_key row.key other.key not nor) (changed_none row other parts.0) in
            ap (λ (r : RowContentOf). r ∷ map row_read before) same ∙ ap (λ (rows : List RowContentOf). row_read other ∷ rows) (rows-tell before after parts.1))
      ]
    ]

no_change : (before after : RowContentOf) → value_read before.value ≡ value_read after.value → changed_row before after ≡ []
no_change before after same =
    ap (λ (alike : Bool). if alike then [] else RowChanged before.key before.value after.value ∷ []) ((alike-Decides before.value after.value).1 same)

heads : (a b : RowContentOf) (rows others : List RowContentOf) → a ∷ rows ≡ b ∷ others → (a ≡ b) × (rows ≡ others)
heads a b rows others e = (cc, cc)

rows-same : (before after : List RowContentOf) → map row_read before ≡ map row_read after → row_differences before after ≡ []
unfolding row_differences
rows-same [] [] same = refl
rows-same [] (row ∷ after) same = absurd (some_read _ _ (sym same))
rows-same (row ∷ before) [] same = absurd (some_read _ _ same)
rows-same (row ∷ before) (other ∷ after) same =
    let parts = heads (row_read row) (row_read other) (map row_read before) (map row_read after) same in
    let key : row.key ≡ other.key = ap (λ (r : RowContentOf). r.key) parts.0 in
    both_first row other before after (not_before row other key) (not_before other row (sym key))
    ∙ ap (λ (front : List RowDifferenceOf). front ++ row_differences before after) (no_change row other (ap (λ (r : RowContentOf). r.value) parts.0))
    ∙ rows-same before after parts.1

-- ---- contents

none_told : (rows : List RowDifferenceOf) → of_rows rows ≡ None → rows ≡ []
none_told [] none = refl
none_told (row ∷ rows) none = absurd cc

none_said : (same : Bool) (found : DifferenceOf) → (if same then None else Some found) ≡ None → same ≡ true
none_said true found none = refl
none_said false found none = absurd cc

said : (same : Bool) (found : DifferenceOf) → same ≡ true → (if same then None else Some found) ≡ None
said same found is = ap (λ (b : Bool). if b then None else Some found) is

tells : (before after : ContentOf) → difference before after ≡ None → content_read before ≡ content_read after
unfolding difference
tells (BagOf before) (BagOf after) none = ap BagOf (rows-tell before after (none_told (row_differences before after) none))
tells (ValueOf a) (ValueOf b) none = ap ValueOf ((alike-Decides a b).0 (none_said (are_alike a b) _ none))
tells (AbsentOf a) (AbsentOf b) none = ap AbsentOf ((label-Decides a b).0 (none_said (is_same a b) _ none))
tells (TooManyReferencesOf a) (TooManyReferencesOf b) none = ap TooManyReferencesOf ((label-Decides a b).0 (none_said (is_same a b) _ none))
tells (TooManyParentsOf a) (TooManyParentsOf b) none = ap TooManyParentsOf ((label-Decides a b).0 (none_said (is_same a b) _ none))
tells before after none = absurd cc

same : (before after : ContentOf) → content_read before ≡ content_read after → difference before after ≡ None
unfolding difference
same (BagOf before) (BagOf after) e = ap of_rows (rows-same before after (let whole = e in cc))
same (ValueOf a) (ValueOf b) e = said (are_alike a b) _ ((alike-Decides a b).1 (let whole = e in cc))
same (AbsentOf a) (AbsentOf b) e = said (is_same a b) _ ((label-Decides a b).1 (let whole = e in cc))
same (TooManyReferencesOf a) (TooManyReferencesOf b) e = said (is_same a b) _ ((label-Decides a b).1 (let whole = e in cc))
same (TooManyParentsOf a) (TooManyParentsOf b) e = said (is_same a b) _ ((label-Decides a b).1 (let whole = e in cc))
same before after e = absurd cc

pub difference_tells : DifferenceTells
difference_tells before after = (tells before after, same before after)
