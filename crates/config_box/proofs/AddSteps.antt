-- A box more in a list of boxes that are joined, and all of them one after the other.
use Rattle.std.proofs.Common.{◌≡◌, ◌+◌, ◌<◌, ◌≤◌, arith, List, [], ◌∷◌, ◌++◌, length, refl, sym, ap, subst, ◌∙◌}
use Rattle.std.specs.Ordering.{is_lt}
use Rattle.std.specs.List.{All}
use Rattle.std.specs.List.Sorted.{IsPermutation, IsSortedBy}
use Rattle.std.proofs.lemmas.List.{length_push}
use Rattle.std.proofs.lemmas.List.Sorted.{IsPermutation-refl, length_permutation, sum_by-IsPermutation}
use Rattle.config_box.specs.config_record.declared.coord.Coord.{Coord}
use Rattle.config_box.specs.box_answers.NumberSet.{SetOf}
use Rattle.config_box.specs.Joined.{IsJoined, CannotJoin, HasJoinedSets}
use Rattle.config_box.specs.Kinds.{IsOfKinds}
use Rattle.config_box.specs.Counts.{counted, box_count}
use Rattle.config_box.specs.Order.{order_but}
use Rattle.config_box.specs.Least.{HasOneSet}
use Rattle.config_box.specs.OneChoice.{AreChoices}
use Rattle.config_box.specs.ListsJoined.{IsAdded, AreJoinedInOrder, AreJoinedAt}
use Rattle.config_box.proofs.CountSteps.{same-joined, same-behind}
use Rattle.config_box.proofs.KindSteps.{put-kinds, kinds-next, kinds-moved}
use Rattle.config_box.proofs.OneChoiceSteps.{choices-join, put-choice-at, self-choice, choices-front, can-choose, choose-next, sorted-choices, choice-of-sorted, one-set-chosen}
use Rattle.config_box.proofs.RangeSteps.{first-joined, put-behind-at, put-joined-at, none-joined, ranges-front, order-front, can-go-on, joined-next}
use Rattle.config_box.proofs.SortSteps.{sorted-order, sorted-ranges, joined-of-sorted, one-set-joined}

-- ---- a box more

-- it is the first
pub added-first : (old new : List (List SetOf)) (next : List SetOf) → old ≡ [] → new ≡ old ++ next ∷ [] → IsAdded old next new
added-first old new next gone is =
    let count = ap (λ (l : List (List SetOf)). length l) is in
    let long = length_push old next in
    let none = ap (λ (l : List (List SetOf)). length l) gone in record {
      counts = λ d. ap (box_count d) is;
      no_more = omega arith;
      some = omega arith;
      kinds = λ sets h. subst (All (IsOfKinds sets)) (sym is) h;
      ranges = λ c r gaps below. first-joined c old new next gone is r;
      choices = λ c r few. self-choice c (old ++ next ∷ []) new is r (omega arith);
    }

-- it is joined with the last
pub added-joined : (old front new : List (List SetOf)) (last next both : List SetOf) → old ≡ front ++ last ∷ [] → new ≡ front ++ both ∷ [] → IsJoined last next both → HasJoinedSets last next both → IsAdded old next new
added-joined old front new last next both whole is joined has =
    let count = ap (λ (l : List (List SetOf)). length l) is in
    let long = length_push front both in
    let old_count = ap (λ (l : List (List SetOf)). length l) whole in
    let old_long = length_push front last in record {
      counts = λ d. ap (box_count d) is ∙ same-joined front last next both joined d ∙ ap (λ (l : List (List SetOf)). box_count d (l ++ next ∷ [])) (sym whole);
      no_more = omega arith;
      some = omega arith;
      kinds = put-kinds old front new last next both whole is joined has;
      ranges = λ c r gaps below. put-joined-at c old front new last next both whole is r gaps below has;
      choices = λ c r few. put-choice-at c old front new last next both whole is r few joined has;
    }

-- it is put behind the last
pub added-behind : (old front new : List (List SetOf)) (last next : List SetOf) → old ≡ front ++ last ∷ [] → new ≡ (front ++ last ∷ []) ++ next ∷ [] → CannotJoin last next → IsAdded old next new
added-behind old front new last next whole behind cannot =
    let is : new ≡ old ++ next ∷ [] = behind ∙ ap (λ (l : List (List SetOf)). l ++ next ∷ []) (sym whole) in
    let count = ap (λ (l : List (List SetOf)). length l) is in
    let long = length_push old next in record {
      counts = λ d. ap (box_count d) is;
      no_more = omega arith;
      some = omega arith;
      kinds = λ sets h. subst (All (IsOfKinds sets)) (sym is) h;
      ranges = λ c r gaps below. put-behind-at c old front new last next whole behind r gaps below cannot;
      choices = λ c r few. absurd (choices-join c front last next (subst (λ (l : List (List SetOf)). AreChoices c (l ++ next ∷ [])) whole r) cannot);
    }

-- ---- all of them

pub none-in_order : (new : List (List SetOf)) → new ≡ [] → AreJoinedInOrder [] new
none-in_order new none =
    let count = ap (λ (l : List (List SetOf)). length l) none in record {
      counts = λ d. ap (box_count d) none;
      no_more = omega arith;
      some = λ q. absurd (omega arith);
      kinds = λ sets h. subst (All (IsOfKinds sets)) (sym none) h;
      ranges = λ c r order. none-joined c [] new (omega arith);
      choices = λ c r. self-choice c [] new none r (omega arith);
    }

pub next-in_order : (old joined new : List (List SetOf)) (next : List SetOf) → AreJoinedInOrder old joined → IsAdded joined next new → AreJoinedInOrder (old ++ next ∷ []) new
next-in_order old joined new next so_far added =
    let long = length_push old next in
    let more = added.no_more in
    let no_more = so_far.no_more in record {
      counts = λ d. added.counts d ∙ same-behind old joined (next ∷ []) so_far.counts d;
      no_more = omega arith;
      some = λ q. added.some;
      kinds = kinds-next old joined new next so_far.kinds added.kinds;
      ranges = λ c r order.
          let before = so_far.ranges c (ranges-front c old next r) (order-front c old next order) in
          let go = can-go-on c old joined next r order before in
          joined-next c old joined new next before (added.ranges c go.ranges go.gaps go.below);
      choices = λ c r.
          let before = so_far.choices c (choices-front c old next r) in
          choose-next c old joined new next before (added.choices c (can-choose c old joined next r so_far.counts before) before.one);
    }

-- ---- along a coordinate

-- they have one set there, so they stay
pub stay-at : (c : Coord) (boxes : List (List SetOf)) → HasOneSet c boxes → AreJoinedAt c boxes boxes
stay-at c boxes one = record {
  counts = λ d. refl;
  no_more = omega arith;
  some = λ q. q;
  kinds = λ sets h. h;
  stay = λ h. refl;
  ranges = λ differ. one-set-joined c boxes differ (IsPermutation-refl boxes) one;
  choices = λ differ. one-set-chosen c boxes differ (IsPermutation-refl boxes) one;
}

-- they are sorted, and joined in this order
pub sorted-at : (c : Coord) (boxes ys new : List (List SetOf)) → (HasOneSet c boxes → ⊥) → IsPermutation boxes ys → IsSortedBy (λ a b. is_lt (order_but c a b)) ys → AreJoinedInOrder ys new → AreJoinedAt c boxes new
sorted-at c boxes ys new vary moved sorted joined =
    let count = length_permutation boxes ys moved in
    let no_more = joined.no_more in record {
      counts = λ d. joined.counts d ∙ sum_by-IsPermutation (counted d) boxes ys moved;
      no_more = omega arith;
      some = λ q. joined.some (omega arith);
      kinds = kinds-moved boxes ys new moved joined.kinds;
      stay = λ one. absurd (vary one);
      ranges = λ differ. joined-of-sorted c boxes ys new moved (joined.ranges c (sorted-ranges c boxes ys differ moved) (sorted-order c boxes ys differ moved sorted));
      choices = λ differ. choice-of-sorted c boxes ys new moved (joined.choices c (sorted-choices c boxes ys differ moved));
    }
