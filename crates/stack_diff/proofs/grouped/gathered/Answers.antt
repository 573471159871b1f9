use Rattle.std.proofs.Common.{rules, ◌≡◌, List, [], ◌∷◌, ◌++◌, Some, map, sym, ◌∙◌, ap, subst}
use Rattle.std.specs.List.{All}
use Rattle.std.specs.List.Sorted.{IsSortedBy}
use Rattle.std.specs.Ordering.{is_lt}
use Rattle.std.proofs.lemmas.Fn.{always_returns_same}
use Rattle.std.proofs.lemmas.List.{append-nil, map-append, nil_from_length}
use Rattle.std.proofs.lemmas.List.Elements.{All-nil, All-pop}
use Rattle.std.proofs.lemmas.List.Sorted.{All-permutation, IsPermutation-map}
use Rattle.stack_diff.specs.declared.change.Change.{Change}
use Rattle.stack_diff.specs.declared.tree.Leaf.{Leaf}
use Rattle.stack_diff.specs.Once.{KeepsEach}
use Rattle.stack_diff.specs.Changes.{change_of, boxes_in}
use Rattle.stack_diff.specs.Tree.{IsRight, boxes_told}
use Rattle.stack_diff.specs.Grouped.{differences_told, differences_in, IsGathered}
use Rattle.stack_diff.proofs.Once.{keeps-on, keeps-same}
use Rattle.stack_diff.proofs.Moved.{keeps-permuted}
use Rattle.stack_diff.proofs.Rising.{order, AreRising, leaves_ranked, sorted-leaves, rising-next, told-apart}
use Rattle.stack_diff.proofs.Grouping.{keeps-taken}
use Rattle.stack_diff.proofs.grouped.gathered.Goals as goal

pub leaves-init : goal.leaves-init
leaves-init c =
    let sorted : List Leaf = c.sort_by.new.self.items in
    let none : boxes_told sorted ++ boxes_in (map change_of c.new-changes.result.items) ≡ boxes_told sorted =
    ap (λ (changes : List Change). boxes_told sorted ++ boxes_in (map change_of changes)) c.new-changes.ensures.items ∙ append-nil (boxes_told sorted) in
    let in_order : IsSortedBy (λ (a b : Leaf). is_lt (order b.difference.value a.difference.value)) sorted =
    c.in_ok-sort_by.ensures.sorted (λ a b. is_lt (order b.difference.value a.difference.value)) leaves_ranked (always_returns_same _ _ _ (λ a r f k. search rules)) in
    record {
      devices = keeps-on _ _ _ (keeps-permuted _ _ (IsPermutation-map (λ (leaf : Leaf). leaf.members) c.args.told.items sorted c.sort_by.ensures.permutation)) (keeps-same _ _ none);
      gathered = λ pair sets right. (
        All-permutation (IsRight pair sets) c.args.told.items sorted c.sort_by.ensures.permutation right,
        subst (λ (changes : List Change). All (IsGathered pair sets) (map change_of changes)) (sym c.new-changes.ensures.items) (All-nil (IsGathered pair sets)),
      );
      rising = subst (λ (changes : List Change). AreRising (differences_told sorted) (differences_in changes)) (sym c.new-changes.ensures.items) (sorted-leaves sorted in_order);
    }

pub leaves-preserved : goal.leaves-preserved
leaves-preserved c = record {
  devices = keeps-on _ _ _ c.leaves.invariant.devices (keeps-taken c.leaves.told.items c.pop.new.self.items c.in-Some.leaf c.leaves.changes.items c.add_leaf.new.changes.items c.in-Some.ensures.items c.in_ok-add_leaf.ensures);
  gathered = λ pair sets right.
      let so_far = c.leaves.invariant.gathered pair sets right in
      let taken = All-pop (IsRight pair sets) c.leaves.told.items c.pop.new.self.items (Some c.in-Some.leaf) c.in-Some.ensures.items so_far.0 in
      (taken.0, c.in_ok-add_leaf.ensures.gathered pair sets taken.1 so_far.1);
  rising = rising-next (differences_told c.leaves.told.items) (differences_told c.pop.new.self.items) c.in-Some.leaf.difference.value (differences_in c.leaves.changes.items) (differences_in c.add_leaf.new.changes.items)
      (ap differences_told c.in-Some.ensures.items ∙ map-append (λ (leaf : Leaf). leaf.difference.value) c.pop.new.self.items (c.in-Some.leaf ∷ [])) c.in_ok-add_leaf.ensures.differences c.leaves.invariant.rising;
}

pub returns : goal.returns
returns c =
    let none : c.leaves.told.items ≡ [] = nil_from_length _ (sym c.leaves.told.ok.0 ∙ c.in_default.ensures.cases.0) in
    record {
      devices = subst (λ (told : List Leaf). KeepsEach (boxes_told c.args.told.items) (boxes_told told ++ boxes_in (map change_of c.leaves.changes.items))) none c.leaves.invariant.devices;
      gathered = λ pair sets right. (c.leaves.invariant.gathered pair sets right).1;
      apart = told-apart c.leaves.changes.items c.leaves.invariant.rising.rising;
    }
