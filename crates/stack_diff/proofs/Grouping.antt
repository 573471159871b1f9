-- Leaves that become changes.
use Rattle.std.proofs.Common.{◌≡◌, ℕ, arith, List, [], ◌∷◌, ◌++◌, Some, append_assoc, length-append, map, sym, ◌∙◌, ap, subst}
use Rattle.std.proofs.lemmas.List.{map-append, append-nil}
use Rattle.std.proofs.lemmas.List.Concat.{flat_map-append}
use Rattle.std.proofs.lemmas.List.Elements.{All-nil, All-cons, All-same, All-push, All-pop}
use Rattle.cert_maker.specs.box_answers.NumberSet.{SetOf}
use Rattle.cert_maker.specs.box_answers.Members.{IsMember, SomeMember}
use Rattle.cert_maker.proofs.cert_checker.box_answers.SomeMember.{some_member}
use Rattle.config_box.specs.Kinds.{IsOfKinds}
use Rattle.stack_diff.specs.declared.difference.Difference.{Difference}
use Rattle.stack_diff.specs.Difference.{DifferenceOf}
use Rattle.stack_diff.specs.DifferenceSeen.{difference_of}
use Rattle.stack_diff.specs.declared.pair.Pair.{Pair}
use Rattle.stack_diff.specs.declared.change.Change.{Change}
use Rattle.stack_diff.specs.declared.tree.Leaf.{Leaf}
use Rattle.stack_diff.specs.Sides.{pair_differs}
use Rattle.stack_diff.specs.Once.{KeepsEach}
use Rattle.stack_diff.specs.Changes.{ChangeOf, change_of, IsSo, boxes_in}
use Rattle.stack_diff.specs.Tree.{IsRight, boxes_told}
use Rattle.stack_diff.specs.Grouped.{differences_in, AreOne, AddsDifference, IsGathered, AreGathered, AddsLeafTo}
use Rattle.stack_diff.proofs.Once.{keeps-on, keeps-same, keeps-behind, keeps-turned}
use Rattle.stack_diff.proofs.Rising.{adds-first, adds-same, adds-other}

-- ---- the boxes of changes

pub boxes-push : (old new : List Change) (last : Change) → new ≡ old ++ last ∷ [] → boxes_in (map change_of new) ≡ boxes_in (map change_of old) ++ last.boxes.items
boxes-push old new last e =
    ap (λ (changes : List Change). boxes_in (map change_of changes)) e ∙ ap boxes_in (map-append change_of old (last ∷ []))
    ∙ flat_map-append (λ (change : ChangeOf). change.boxes) (map change_of old) (change_of last ∷ [])
    ∙ ap (λ (bs : List (List SetOf)). boxes_in (map change_of old) ++ bs) (append-nil last.boxes.items)

-- a box more behind all of them
pub keeps-last : (part : List SetOf) (boxes : List (List SetOf)) → KeepsEach (part ∷ boxes) (boxes ++ part ∷ [])
keeps-last part boxes = keeps-turned (part ∷ []) boxes

-- one more box of the last change
pub keeps-longer : (part : List SetOf) (boxes others mine : List (List SetOf)) → boxes ≡ others ++ mine → KeepsEach (part ∷ boxes) (others ++ (mine ++ part ∷ []))
keeps-longer part boxes others mine e =
    keeps-on _ _ _ (keeps-last part boxes) (keeps-same _ _ (sym (append_assoc others mine (part ∷ [])) ∙ ap (λ (bs : List (List SetOf)). bs ++ part ∷ []) (sym e)))

differences-push : (old new : List Change) (last : Change) → new ≡ old ++ last ∷ [] → differences_in new ≡ differences_in old ++ last.difference.value ∷ []
differences-push old new last e = ap differences_in e ∙ map-append (λ (change : Change). change.difference.value) old (last ∷ [])

-- ---- a change of this difference and these boxes

pub record IsChange (change : Change) (told : Difference) (parts : List (List SetOf)) : Type 0 where
  pub difference : change.difference.value ≡ told
  pub boxes : change.boxes.items ≡ parts

seen-change : (change : Change) (difference : Difference) (parts : List (List SetOf)) → IsChange change difference parts → change_of change ≡ record { difference = difference_of difference; boxes = parts }
seen-change change difference parts is = λ i. record { difference = difference_of (is.difference i); boxes = is.boxes i }

-- ---- what is told of them

module _ (pair : Pair) (sets : List SetOf) where
  abbrev Gathered : ChangeOf → Type 0
  Gathered = IsGathered pair sets

  -- it is so on all devices of a box
  abbrev SoOn : DifferenceOf → List SetOf → Type 0
  SoOn difference part = (d : List ℕ) → IsMember part d → IsSo (pair_differs pair) sets difference d

  pub gathered-push : (old new : List Change) (last : Change) → new ≡ old ++ last ∷ [] → AreGathered pair sets old → Gathered (change_of last) → AreGathered pair sets new
  gathered-push old new last e h one =
      All-same Gathered (map change_of new) (map change_of old ++ change_of last ∷ []) (ap (map change_of) e ∙ map-append change_of old (last ∷ [])) (All-push Gathered (map change_of old) (change_of last) h one)

  pub gathered-pop : (old new : List Change) (last : Change) → old ≡ new ++ last ∷ [] → AreGathered pair sets old → AreGathered pair sets new × Gathered (change_of last)
  gathered-pop old new last e h = All-pop Gathered (map change_of old) (map change_of new) (Some (change_of last)) (ap (map change_of) e ∙ map-append change_of new (last ∷ [])) h

  gathered-one : (leaf : Leaf) → IsRight pair sets leaf → Gathered (record { difference = difference_of leaf.difference.value; boxes = leaf.members ∷ [] })
  gathered-one leaf right = record {
    real = record {
      somewhere = omega arith;
      devices = All-cons SomeMember leaf.members [] (some_member leaf.members right.kinds.is_box) (All-nil SomeMember);
      so = All-cons (SoOn (difference_of leaf.difference.value)) leaf.members [] right.so (All-nil (SoOn (difference_of leaf.difference.value)));
    };
    kinds = All-cons (IsOfKinds sets) leaf.members [] right.kinds (All-nil (IsOfKinds sets));
  }

  gathered-longer : (leaf : Leaf) (difference : DifferenceOf) (boxes : List (List SetOf)) → difference ≡ difference_of leaf.difference.value → IsRight pair sets leaf
      → Gathered (record { difference = difference; boxes = boxes }) → Gathered (record { difference = difference; boxes = boxes ++ leaf.members ∷ [] })
  gathered-longer leaf difference boxes e right so_far =
      let long = length-append boxes (leaf.members ∷ []) in
      let some = so_far.real.somewhere in
      record {
        real = record {
          somewhere = omega (arith, long, some);
          devices = All-push SomeMember boxes leaf.members so_far.real.devices (some_member leaf.members right.kinds.is_box);
          so = All-push (SoOn difference) boxes leaf.members so_far.real.so (subst (λ (it : DifferenceOf). SoOn it leaf.members) (sym e) right.so);
        };
        kinds = All-push (IsOfKinds sets) boxes leaf.members so_far.kinds right.kinds;
      }

-- ---- one leaf more

pub adds-another : (leaf : Leaf) (old new : List Change) (change : Change) → new ≡ old ++ change ∷ [] → IsChange change leaf.difference.value (leaf.members ∷ [])
    → AddsDifference leaf.difference.value (differences_in old) (differences_in new) → AddsLeafTo leaf old new
adds-another leaf old new change e is adds =
    let seen = seen-change change leaf.difference.value (leaf.members ∷ []) is in record {
      devices = keeps-on _ _ _ (keeps-last leaf.members (boxes_in (map change_of old)))
          (keeps-same _ _ (boxes-push old new change e ∙ ap (λ (c : ChangeOf). boxes_in (map change_of old) ++ c.boxes) seen));
      gathered = λ pair sets right so_far.
          gathered-push pair sets old new change e so_far (subst (λ (c : ChangeOf). IsGathered pair sets c) (sym seen) (gathered-one pair sets leaf right));
      differences = adds;
    }

-- it is the first
pub difference-first : (leaf : Leaf) (old new : List Change) (change : Change) → old ≡ [] → new ≡ change ∷ [] → IsChange change leaf.difference.value (leaf.members ∷ [])
    → AddsDifference leaf.difference.value (differences_in old) (differences_in new)
difference-first leaf old new change none e is =
    adds-first leaf.difference.value (differences_in old) (differences_in new) (ap differences_in none) (ap differences_in e ∙ ap (λ p. p ∷ []) is.difference)

-- or it stands behind one that tells something else
pub difference-other : (leaf : Leaf) (rest old new : List Change) (last change : Change) → old ≡ rest ++ last ∷ [] → new ≡ old ++ change ∷ [] → IsChange change leaf.difference.value (leaf.members ∷ [])
    → (AreOne last.difference.value leaf.difference.value → ⊥) → AddsDifference leaf.difference.value (differences_in old) (differences_in new)
difference-other leaf rest old new last change e f is other =
    adds-other leaf.difference.value last.difference.value (differences_in rest) (differences_in old) (differences_in new) (differences-push rest old last e)
    (differences-push old new change f ∙ ap (λ p. differences_in old ++ p ∷ []) is.difference) other

pub adds-longer : (leaf : Leaf) (old rest new : List Change) (last change : Change) → old ≡ rest ++ last ∷ [] → new ≡ rest ++ change ∷ [] → AreOne last.difference.value leaf.difference.value
    → IsChange change last.difference.value (last.boxes.items ++ leaf.members ∷ []) → AddsLeafTo leaf old new
adds-longer leaf old rest new last change e f same is =
    let seen = seen-change change last.difference.value (last.boxes.items ++ leaf.members ∷ []) is in record {
      devices = keeps-on _ _ _ (keeps-longer leaf.members (boxes_in (map change_of old)) (boxes_in (map change_of rest)) last.boxes.items (boxes-push rest old last e))
          (keeps-same _ _ (boxes-push rest new change f ∙ ap (λ (c : ChangeOf). boxes_in (map change_of rest) ++ c.boxes) seen));
      gathered = λ pair sets right so_far.
          let popped = gathered-pop pair sets old rest last e so_far in
          gathered-push pair sets rest new change f popped.0
          (subst (λ (c : ChangeOf). IsGathered pair sets c) (sym seen) (gathered-longer pair sets leaf (difference_of last.difference.value) last.boxes.items same right popped.1));
      differences = adds-same leaf.difference.value last.difference.value change.difference.value (differences_in rest) (differences_in old) (differences_in new) (differences-push rest old last e)
          (differences-push rest new change f) is.difference same;
    }

-- ---- a leaf is taken

pub keeps-taken : (told rest : List Leaf) (leaf : Leaf) (old new : List Change) → told ≡ rest ++ leaf ∷ [] → AddsLeafTo leaf old new
    → KeepsEach (boxes_told told ++ boxes_in (map change_of old)) (boxes_told rest ++ boxes_in (map change_of new))
keeps-taken told rest leaf old new e adds =
    let boxes : boxes_told told ++ boxes_in (map change_of old) ≡ boxes_told rest ++ leaf.members ∷ boxes_in (map change_of old) =
    ap (λ (bs : List (List SetOf)). bs ++ boxes_in (map change_of old)) (ap boxes_told e ∙ map-append (λ (t : Leaf). t.members) rest (leaf ∷ []))
    ∙ append_assoc (boxes_told rest) (leaf.members ∷ []) (boxes_in (map change_of old)) in
    keeps-on _ _ _ (keeps-same _ _ (sym boxes)) (keeps-behind (boxes_told rest) _ _ adds.devices)
