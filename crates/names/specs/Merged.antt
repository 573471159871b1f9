-- The labels of two stacks, merged. Contracts within the crate alone speak of this.
use Rattle.std.specs.Prelude.{◌≡◌, List, [], ◌∷◌, ◌++◌, Option}
use Rattle.std.specs.List.Sorted.{IsStrictlySortedBy}
use Rattle.std.specs.Ordering.{match_ordering}
use Rattle.overlay_map.specs.res_value.declared.res_id.ResId.{ResId}
use Rattle.names.specs.declared.named_stack.Labelled as code
use Rattle.names.specs.declared.pair.Sides.TheVariants.{Removed, Added, Both}
use Rattle.names.specs.Label.{LabelOf, label_of, label_cmp}
use Rattle.names.specs.Pairs.{PairOf}
use Rattle.names.specs.StackLabels.{Labelled, called, first_with, labels_of}

abbrev pub labelled_of : code.Labelled → Labelled
labelled_of one = called one.id (label_of one.label.now)

-- all labels that stand for something, in rising order
pub record AreLabels (stands : LabelOf → Option ResId) (all : List Labelled) : Type 0 where
  pub rising : IsStrictlySortedBy label_cmp (labels_of all)
  pub found : (label : LabelOf) → first_with all label ≡ stands label

abbrev pub removed : Labelled → PairOf
removed old = record { label = old.label; sides = Removed old.id }

abbrev pub added : Labelled → PairOf
added new = record { label = new.label; sides = Added new.id }

abbrev pub in_both : Labelled → Labelled → PairOf
in_both old new = record { label = new.label; sides = Both old.id new.id }

-- Of the first old one and the first new one the smaller comes first; the same label comes once.
abbrev pub merged : List Labelled → List Labelled → List PairOf
merged [] [] = []
merged (a ∷ old) [] = removed a ∷ merged old []
merged [] (b ∷ new) = added b ∷ merged [] new
merged (a ∷ old) (b ∷ new) = match_ordering (label_cmp a.label b.label)
    (removed a ∷ merged old (b ∷ new))
    (in_both a b ∷ merged old new)
    (added b ∷ merged (a ∷ old) new)

-- One new label was merged: whatever others follow, to go on from before and from after it gives the same.
abbrev pub MergesLabel : List PairOf → List PairOf → List Labelled → List Labelled → Labelled → Type 0
MergesLabel before after old left new = (others : List Labelled) → before ++ merged old (new ∷ others) ≡ after ++ merged left others
