-- Boxes of the kinds of a whole box, when they are joined.
use Rattle.std.proofs.Common.{◌≡◌, List, [], ◌∷◌, ◌++◌, sym, subst}
use Rattle.std.specs.List.{All}
use Rattle.std.proofs.lemmas.List.Elements.{All-push}
use Rattle.std.proofs.lemmas.List.Sorted.{All-permutation}
use Rattle.std.specs.List.Sorted.{IsPermutation}
use Rattle.config_box.proofs.config_record.ChangedNumber.{by_coord}
use Rattle.config_box.specs.config_record.declared.coord.Coord.{Coord}
use Rattle.config_box.specs.box_answers.NumberSet.{SetOf, RangeOf, NumbersOf, LocalesOf}
use Rattle.config_box.specs.box_answers.Members.{set_at}
use Rattle.config_box.specs.Marks.{AreMarkedAlike}
use Rattle.config_box.specs.Joined.{IsJoined, HasJoinedSets}
use Rattle.config_box.specs.Kinds.{IsOfKinds, KeepKinds}
use Rattle.config_box.proofs.RangeSteps.{All-front, All-last}

same-mark : (s t u : SetOf) → AreMarkedAlike s t → AreMarkedAlike t u → AreMarkedAlike s u
same-mark (RangeOf a b) (RangeOf m n) (RangeOf x y) first next = tt
same-mark (NumbersOf a) (NumbersOf m) (NumbersOf x) first next = tt
same-mark (LocalesOf a) (LocalesOf m) (LocalesOf x) first next = tt
same-mark s t u first next = absurd (assumption)

joined-kinds : (sets a b joined : List SetOf) → IsOfKinds sets a → IsJoined a b joined → HasJoinedSets a b joined → IsOfKinds sets joined
joined-kinds sets a b joined h is has = record {
  is_box = is.is_box;
  marks = λ k. by_coord k has.0
      (λ e. subst (λ (i : Coord). AreMarkedAlike (set_at sets i) (set_at joined i)) (sym e) (same-mark (set_at sets has.0) (set_at a has.0) (set_at joined has.0) (h.marks has.0) has.1.here.mark))
      (λ ne. subst (AreMarkedAlike (set_at sets k)) (sym (has.1.others k ne)) (h.marks k));
}

-- a box is joined with the last
pub put-kinds : (old front new : List (List SetOf)) (last next both : List SetOf) → old ≡ front ++ last ∷ [] → new ≡ front ++ both ∷ [] → IsJoined last next both → HasJoinedSets last next both
    → KeepKinds (old ++ next ∷ []) new
put-kinds old front new last next both whole is joined has sets h =
    let before : All (IsOfKinds sets) (front ++ last ∷ []) = subst (All (IsOfKinds sets)) whole (All-front (IsOfKinds sets) old next h) in
    subst (All (IsOfKinds sets)) (sym is)
    (All-push (IsOfKinds sets) front both (All-front (IsOfKinds sets) front last before) (joined-kinds sets last next both (All-last (IsOfKinds sets) front last before) joined has))

-- what is joined so far, and one box more
pub kinds-next : (old joined new : List (List SetOf)) (next : List SetOf) → KeepKinds old joined → KeepKinds (joined ++ next ∷ []) new → KeepKinds (old ++ next ∷ []) new
kinds-next old joined new next before one sets h = one sets (All-push (IsOfKinds sets) joined next (before sets (All-front (IsOfKinds sets) old next h)) (All-last (IsOfKinds sets) old next h))

pub kinds-moved : (boxes ys new : List (List SetOf)) → IsPermutation boxes ys → KeepKinds ys new → KeepKinds boxes new
kinds-moved boxes ys new moved keep sets h = keep sets (All-permutation (IsOfKinds sets) boxes ys moved h)
