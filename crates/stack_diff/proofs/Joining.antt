-- Changes whose boxes are joined.
use Rattle.std.proofs.Common.{◌≡◌, ℕ, ◌≤◌, ◌⊎◌, arith, List, [], ◌∷◌, Option, Some, get_or, map, sym, subst, ◌∙◌}
use Rattle.std.specs.List.{All, AllPairs, AllZip}
use Rattle.std.proofs.lemmas.List.Elements.{All-nil, All-cons, All-head, All-tail}
use Rattle.std.proofs.lemmas.List.Kept.{AllPairs-cons}
use Rattle.cert_maker.specs.box_answers.NumberSet.{SetOf}
use Rattle.cert_maker.specs.box_answers.Members.{IsMember}
use Rattle.config_box.specs.Devices.{HasNone, HasOnce, KeepDevices}
use Rattle.config_box.specs.Kinds.{IsOfKinds}
use Rattle.config_box.proofs.CountSteps.{by_member}
use Rattle.config_box.proofs.PairSteps.{pairs-head, pairs-tail, all-flat}
use Rattle.stack_diff.specs.DifferenceSeen.{difference_of}
use Rattle.stack_diff.specs.declared.pair.Pair.{Pair}
use Rattle.stack_diff.specs.declared.change.Change.{Change}
use Rattle.stack_diff.specs.declared.tree.Leaf.{Leaf}
use Rattle.stack_diff.specs.declared.tree.Leaves.{Leaves}
use Rattle.stack_diff.specs.Sides.{pair_differs, pair_traces}
use Rattle.stack_diff.specs.Once.{KeepsEach}
use Rattle.stack_diff.specs.Changes.{ChangeOf, change_of, IsSo, AreChanges, boxes_in}
use Rattle.stack_diff.proofs.Same.{are-changes}
use Rattle.stack_diff.specs.Fewest.{TellOther, AreToldShort}
use Rattle.stack_diff.specs.Tree.{AreRight, IsGrown}
use Rattle.stack_diff.specs.NeededTree.{HasNeededTree}
use Rattle.stack_diff.specs.Grouped.{IsGathered, AreGathered, JoinsBoxes, Groups}
use Rattle.stack_diff.proofs.Once.{keeps-on, keeps-all, keeps-behind, keeps-before}
use Rattle.stack_diff.proofs.FewBoxes.{IsJoinedOf, at-most-once, part-count, none-or-once, few-boxes}

-- what holds of the members of each box holds of a device that one of them has
of-one : (Q : List ℕ → Type 0) (d : List ℕ) (boxes : List (List SetOf)) → All (λ part. (e : List ℕ) → IsMember part e → Q e) boxes → (HasNone d boxes → ⊥) → Q d
of-one Q d [] all not_none = absurd (not_none tt)
of-one Q d (part ∷ boxes) all not_none =
    by_member d part (λ m. All-head (λ p. (e : List ℕ) → IsMember p e → Q e) part boxes all d m)
    (λ not. of-one Q d boxes (All-tail (λ p. (e : List ℕ) → IsMember p e → Q e) part boxes all) (λ none. not_none (not, none)))

to-each : (Q : List ℕ → Type 0) (boxes : List (List SetOf)) → ((d : List ℕ) → (HasNone d boxes → ⊥) → Q d) → All (λ part. (e : List ℕ) → IsMember part e → Q e) boxes
to-each Q [] h = All-nil (λ part. (e : List ℕ) → IsMember part e → Q e)
to-each Q (part ∷ boxes) h =
    All-cons (λ p. (e : List ℕ) → IsMember p e → Q e) part boxes (λ d m. h d (λ none. none.0 m)) (to-each Q boxes (λ d not_none. h d (λ none. not_none none.1)))

-- what is so on the devices of boxes is so on those of the boxes that they make
kept-so : (Q : List ℕ → Type 0) (old new : List (List SetOf)) → KeepDevices old new → All (λ part. (e : List ℕ) → IsMember part e → Q e) old → All (λ part. (e : List ℕ) → IsMember part e → Q e) new
kept-so Q old new keep all = to-each Q new (λ d not_none. of-one Q d old all (λ none. not_none ((keep.none d).0 none)))

joined-each : (old new : List (List SetOf)) → KeepDevices old new → KeepsEach old new
joined-each old new keep = record { none = λ d h. (keep.none d).0 h; once = λ d h. (keep.once d).0 h }

-- ---- one change

-- a change with other boxes tells the same
with-boxes : (old new : Change) → JoinsBoxes old new → change_of new ≡ record { difference = difference_of old.difference.value; boxes = new.boxes.items }
with-boxes old new joins = λ i. record { difference = difference_of (joins.difference i).value; boxes = new.boxes.items }

gathered-joined : (pair : Pair) (sets : List SetOf) (old new : Change) → JoinsBoxes old new → IsGathered pair sets (change_of old) → IsGathered pair sets (change_of new)
gathered-joined pair sets old new joins h =
    subst (IsGathered pair sets) (sym (with-boxes old new joins)) (record {
      real = record {
        somewhere = joins.some h.real.somewhere;
        devices = joins.none_empty;
        so = kept-so (λ d. IsSo (pair_differs pair) sets (difference_of old.difference.value) d) old.boxes.items new.boxes.items joins.devices h.real.so;
      };
      kinds = joins.kinds sets h.kinds;
    })

-- ---- all changes
keeps-joined : (olds news : List Change) → AllZip JoinsBoxes olds news → KeepsEach (boxes_in (map change_of olds)) (boxes_in (map change_of news))
keeps-joined [] [] joins = keeps-all []
keeps-joined [] (new ∷ news) joins = absurd joins
keeps-joined (old ∷ olds) [] joins = absurd joins
keeps-joined (old ∷ olds) (new ∷ news) joins =
    keeps-on _ _ _ (keeps-before old.boxes.items new.boxes.items (boxes_in (map change_of olds)) (joined-each old.boxes.items new.boxes.items joins.0.devices))
    (keeps-behind new.boxes.items _ _ (keeps-joined olds news joins.1))

-- what each tells stays other than what this one tells
others-joined : (old new : Change) (olds news : List Change) → JoinsBoxes old new → AllZip JoinsBoxes olds news → All (TellOther (change_of old)) (map change_of olds) → All (TellOther (change_of new)) (map change_of news)
others-joined old new [] [] joins all h = All-nil (TellOther (change_of new))
others-joined old new [] (other ∷ news) joins all h = absurd all
others-joined old new (first ∷ olds) [] joins all h = absurd all
others-joined old new (first ∷ olds) (other ∷ news) joins all h =
    All-cons (TellOther (change_of new)) (change_of other) (map change_of news)
    (λ e.
    All-head (TellOther (change_of old)) (change_of first) (map change_of olds) h
    (sym (λ i. difference_of (joins.difference i).value) ∙ e ∙ (λ i. difference_of (all.0.difference i).value)))
    (others-joined old new olds news joins all.1 (All-tail (TellOther (change_of old)) (change_of first) (map change_of olds) h))

apart-joined : (olds news : List Change) → AllZip JoinsBoxes olds news → AllPairs TellOther (map change_of olds) → AllPairs TellOther (map change_of news)
apart-joined [] [] joins h = h
apart-joined [] (new ∷ news) joins h = absurd joins
apart-joined (old ∷ olds) [] joins h = absurd joins
apart-joined (old ∷ olds) (new ∷ news) joins h =
    AllPairs-cons TellOther (change_of new) (map change_of news)
    (others-joined old new olds news joins.0 joins.1 (pairs-head TellOther (change_of old) (map change_of olds) h))
    (apart-joined olds news joins.1 (pairs-tail TellOther (change_of old) (map change_of olds) h))

module _ (pair : Pair) (sets : List SetOf) where
  abbrev Gathered : ChangeOf → Type 0
  Gathered = IsGathered pair sets

  gathered-each : (olds news : List Change) → AllZip JoinsBoxes olds news → AreGathered pair sets olds → AreGathered pair sets news
  gathered-each [] [] joins h = h
  gathered-each [] (new ∷ news) joins h = absurd joins
  gathered-each (old ∷ olds) [] joins h = absurd joins
  gathered-each (old ∷ olds) (new ∷ news) joins h =
      All-cons Gathered (change_of new) (map change_of news) (gathered-joined pair sets old new joins.0 (All-head Gathered (change_of old) (map change_of olds) h))
      (gathered-each olds news joins.1 (All-tail Gathered (change_of old) (map change_of olds) h))

  -- no two boxes of a change have a device in common
  abbrev Apart : ChangeOf → Type 0
  Apart change = (d : List ℕ) → HasNone d change.boxes ⊎ HasOnce d change.boxes

  abbrev Joined : ChangeOf → Type 0
  Joined = IsJoinedOf (pair_differs pair) sets

  joined-of : (olds news : List Change) → AllZip JoinsBoxes olds news → AreGathered pair sets olds → All Apart (map change_of olds) → All Joined (map change_of news)
  joined-of [] [] joins h apart = All-nil Joined
  joined-of [] (new ∷ news) joins h apart = absurd joins
  joined-of (old ∷ olds) [] joins h apart = absurd joins
  joined-of (old ∷ olds) (new ∷ news) joins h apart =
      let first = All-head Gathered (change_of old) (map change_of olds) h in
      All-cons Joined (change_of new) (map change_of news)
      (record {
        parts = old.boxes.items;
        each = λ k b q. record { kinds = first.kinds k b q; within = λ d m. (first.real.so k b q d m).member };
        apart = All-head Apart (change_of old) (map change_of olds) apart;
        least = joins.0.least;
      })
      (joined-of olds news joins.1 (All-tail Gathered (change_of old) (map change_of olds) h) (All-tail Apart (change_of old) (map change_of olds) apart))

  pub changes-of : (told : List Leaf) (changes : List Change) → AreRight pair sets told → Groups told changes
      → AreToldShort (pair_differs pair) sets (map change_of changes)
  changes-of told changes right groups =
      let all : List ChangeOf = map change_of groups.gathered in
      let so_far = groups.gathers.gathered pair sets right.right in
      let are_so : AreChanges (pair_differs pair) sets all = are-changes (pair_differs pair) sets all (λ k c q. (so_far k c q).real) (λ d m differ. groups.gathers.devices.once d (right.once d m differ)) in
      let each = gathered-each groups.gathered changes groups.joins so_far in
      let are : AreChanges (pair_differs pair) sets (map change_of changes) =
      are-changes (pair_differs pair) sets (map change_of changes) (λ k c q. (each k c q).real)
      (λ d m differ. (keeps-joined groups.gathered changes groups.joins).once d (are_so.once d m differ)) in
      let apart : All Apart all = λ k c q d.
      let few = part-count (pair_differs pair) sets all d k c q in
      let one = at-most-once (pair_differs pair) sets all d are_so in
      none-or-once (pair_differs pair) sets d (get_or all k c).boxes (omega arith) in (
        are,
        few-boxes (pair_differs pair) sets (map change_of changes) right.is_box are (apart-joined groups.gathered changes groups.joins groups.gathers.apart)
            (all-flat (IsOfKinds sets) (λ change. change.boxes) (map change_of changes) (λ k c q. (each k c q).kinds)) (joined-of groups.gathered changes groups.joins so_far apart),
      )

-- the same of a tree that was grown within a limit
pub changes-grown : (pair : Pair) (sets : List SetOf) (most : ℕ) (found : Option Leaves) (leaves : Leaves) (changes : List Change) → IsGrown pair sets most found → found ≡ Some leaves → Groups leaves.told.items changes
    → AreToldShort (pair_differs pair) sets (map change_of changes) × HasNeededTree (pair_traces pair) sets (λ nodes. nodes ≡ leaves.nodes) × (leaves.nodes ≤ most)
changes-grown pair sets most found leaves changes grown is groups =
    let all = subst (λ (one : Option Leaves). IsGrown pair sets most one) is grown in
    (changes-of pair sets leaves.told.items changes all.0 groups, all.1, all.2)
