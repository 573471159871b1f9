-- A tree that grows until no box is open, or it is too large: what its leaves tell of two stacks.
use Rattle.std.proofs.Common.{◌≡◌, ◌≢◌, ℕ, ◌+◌, ◌<◌, inl, inr, None, List, [], ◌∷◌, ◌++◌, append_assoc, length, sym, ◌∙◌, ap, subst}
use Rattle.std.specs.List.{All}
use Rattle.std.proofs.lemmas.List.{map-append, append-nil}
use Rattle.std.proofs.lemmas.List.Elements.{All-nil, All-same, All-push}
use Rattle.cert_maker.specs.box_answers.NumberSet.{SetOf}
use Rattle.cert_maker.specs.box_answers.Members.{IsMember, IsBox}
use Rattle.cert_maker.specs.cert_checker.Paths.{Path}
use Rattle.cert_maker.specs.cert_checker.OpenBoxes.{IsBoxAt}
use Rattle.stack_diff.specs.declared.pair.Pair.{Pair}
use Rattle.stack_diff.specs.declared.tree.Leaf.{Leaf}
use Rattle.stack_diff.specs.Sides.{pair_differs, pair_traces}
use Rattle.config_box.specs.Devices.{HasOnce}
use Rattle.config_box.specs.Kinds.{IsOfKinds}
use Rattle.stack_diff.specs.Once.{KeepsEach}
use Rattle.stack_diff.specs.NeededTree.{HasNeededTree}
use Rattle.stack_diff.specs.AddedNode.{AddsTest}
use Rattle.stack_diff.specs.Tree.{DoNotDiffer, IsLeafOf, AddsPairNode, IsRight, AreRight, boxes_told}
use Rattle.stack_diff.proofs.PartingTree.{last-at, parting-needed}
use Rattle.stack_diff.proofs.PartingTree as tree
use Rattle.stack_diff.proofs.Once.{once-parts, keeps-on, keeps-same, keeps-behind, keeps-turned, keeps-halves}

module _ (pair : Pair) (sets : List SetOf) where
  -- the tree grows; what was told is right, and a device on which the stacks differ was told of once or is in one open box
  pub record Going (boxes : List (List SetOf)) (told : List Leaf) (nodes : ℕ) : Type 0 where
    pub is_box : IsBox sets
    pub growing : tree.Going (pair_traces pair) sets boxes nodes
    pub right : All (IsRight pair sets) told
    pub once : (d : List ℕ) → IsMember sets d → pair_differs pair d ≢ None → HasOnce d (boxes_told told ++ boxes)

  pub started : (boxes : List (List SetOf)) (told : List Leaf) → IsBox sets → boxes ≡ sets ∷ [] → told ≡ [] → Going boxes told 0
  started boxes told is_box alone none = record {
    is_box = is_box;
    growing = tree.started (pair_traces pair) sets boxes is_box alone;
    right = All-same (IsRight pair sets) told [] none (All-nil (IsRight pair sets));
    once = λ d m differ. subst (HasOnce d) (sym (ap (λ (ts : List Leaf). boxes_told ts ++ boxes) none ∙ alone)) (inl (m, tt));
  }

  -- ---- one node more

  test-once : (d : List ℕ) (told_boxes rest new : List (List SetOf)) (part : List SetOf) (adds : AddsTest (pair_traces pair) part rest new) → HasOnce d (told_boxes ++ (rest ++ part ∷ [])) → HasOnce d (told_boxes ++ new)
  test-once d told_boxes rest new part adds h =
      subst (λ (bs : List (List SetOf)). HasOnce d (told_boxes ++ bs)) (sym adds.opened)
      ((keeps-behind told_boxes _ _ (keeps-behind rest _ _ (keeps-halves part adds.yes_half adds.no_half adds.test adds.yes_members adds.no_members))).once d h)

  -- a device on which the stacks differ is in no box on which they do not
  elsewhere : (d : List ℕ) (told_boxes rest : List (List SetOf)) (part : List SetOf) → DoNotDiffer pair part → pair_differs pair d ≢ None
      → HasOnce d (told_boxes ++ (rest ++ part ∷ [])) → HasOnce d (told_boxes ++ rest)
  elsewhere d told_boxes rest part same differ h =
      elim (once-parts d (told_boxes ++ rest) (part ∷ []) (subst (HasOnce d) (sym (append_assoc told_boxes rest (part ∷ []))) h)) [
        | inl r ↦ r.0
        | inr r ↦ elim r.1 [
          | inl here ↦ absurd (differ (same d here.0))
          | inr nowhere ↦ absurd nowhere.1
        ]
      ]

  -- a leaf that tells its members
  keeps-told : (told_boxes rest : List (List SetOf)) (part : List SetOf) → KeepsEach (told_boxes ++ (rest ++ part ∷ [])) ((told_boxes ++ part ∷ []) ++ rest)
  keeps-told told_boxes rest part =
      keeps-on _ _ _ (keeps-behind told_boxes _ _ (keeps-turned rest (part ∷ []))) (keeps-same _ _ (append_assoc told_boxes (part ∷ []) rest))

  told-right : (part : List SetOf) (path : Path) (leaf : Leaf) → IsBoxAt sets path part → IsLeafOf pair part leaf → IsRight pair sets leaf
  told-right part path leaf at told = record {
    kinds = subst (IsOfKinds sets) (sym told.members) (record { is_box = at.is_box; marks = at.marks });
    so = λ d m.
        let here : IsMember part d = subst (λ (s : List SetOf). IsMember s d) told.members m in
        record { member = ((at.members d).0 here).0; so = told.so d here };
  }

  told-once : (d : List ℕ) (told new_told : List Leaf) (leaf : Leaf) (rest : List (List SetOf)) (part : List SetOf) → new_told ≡ told ++ leaf ∷ [] → leaf.members ≡ part
      → HasOnce d (boxes_told told ++ (rest ++ part ∷ [])) → HasOnce d (boxes_told new_told ++ rest)
  told-once d told new_told leaf rest part e same h =
      let boxes : boxes_told new_told ≡ boxes_told told ++ part ∷ [] =
      ap boxes_told e ∙ map-append (λ (t : Leaf). t.members) told (leaf ∷ []) ∙ ap (λ (s : List SetOf). boxes_told told ++ s ∷ []) same in
      subst (λ (bs : List (List SetOf)). HasOnce d (bs ++ rest)) (sym boxes) ((keeps-told (boxes_told told) rest part).once d h)

  pub goes-on : (before rest new : List (List SetOf)) (part : List SetOf) (told new_told : List Leaf) (nodes : ℕ) → before ≡ rest ++ part ∷ [] → Going before told nodes → AddsPairNode pair part rest new told new_told
      → Going new new_told (nodes + 1)
  goes-on before rest new part told new_told nodes e going (inl adds) = record {
    is_box = going.is_box;
    growing = tree.goes-on (pair_traces pair) sets before rest new part nodes e going.growing (inl adds.0);
    right = All-same (IsRight pair sets) new_told told adds.1 going.right;
    once = λ d m differ.
        subst (λ (ts : List Leaf). HasOnce d (boxes_told ts ++ new)) (sym adds.1)
        (test-once d (boxes_told told) rest new part adds.0 (subst (λ (bs : List (List SetOf)). HasOnce d (boxes_told told ++ bs)) e (going.once d m differ)));
  }
  goes-on before rest new part told new_told nodes e going (inr adds) =
      let at = last-at (pair_traces pair) sets before rest part nodes e going.growing in
      let come : (d : List ℕ) → IsMember sets d → pair_differs pair d ≢ None → HasOnce d (boxes_told told ++ (rest ++ part ∷ [])) =
      λ d m differ. subst (λ (bs : List (List SetOf)). HasOnce d (boxes_told told ++ bs)) e (going.once d m differ) in
      record {
        is_box = going.is_box;
        growing = tree.goes-on (pair_traces pair) sets before rest new part nodes e going.growing (inr (adds.same, adds.one));
        right = elim adds.tells [
          | inl same ↦ All-same (IsRight pair sets) new_told told same.0 going.right
          | inr tells ↦ All-same (IsRight pair sets) new_told (told ++ tells.0 ∷ []) tells.1 (All-push (IsRight pair sets) told tells.0 going.right (told-right part at.0 tells.0 at.1 tells.2))
        ];
        once = λ d m differ. subst (λ (bs : List (List SetOf)). HasOnce d (boxes_told new_told ++ bs)) (sym adds.same) (elim adds.tells [
          | inl same ↦ subst (λ (ts : List Leaf). HasOnce d (boxes_told ts ++ rest)) (sym same.0) (elsewhere d (boxes_told told) rest part same.1 differ (come d m differ))
          | inr tells ↦ told-once d told new_told tells.0 rest part tells.1 tells.2.members (come d m differ)
        ]);
      }

  -- ---- at the end

  -- no box is open
  pub done : (boxes : List (List SetOf)) (told : List Leaf) (nodes : ℕ) → boxes ≡ [] → Going boxes told nodes → AreRight pair sets told × HasNeededTree (pair_traces pair) sets (λ count. count ≡ nodes)
  done boxes told nodes e going =
      let whole = tree.done (pair_traces pair) sets boxes nodes e going.growing in (
        record {
          is_box = going.is_box;
          right = going.right;
          once = λ d m differ. subst (HasOnce d) (ap (λ (bs : List (List SetOf)). boxes_told told ++ bs) e ∙ append-nil (boxes_told told)) (going.once d m differ);
        },
        (whole.0, parting-needed (pair_traces pair) sets whole.0 whole.1, whole.2),
      )

  pub too-large : (boxes : List (List SetOf)) (told : List Leaf) (nodes most : ℕ) → most < nodes + length boxes → Going boxes told nodes → HasNeededTree (pair_traces pair) sets (λ count. most < count)
  too-large boxes told nodes most more going = tree.too-large (pair_traces pair) sets boxes nodes most more going.growing
