use Rattle.std.proofs.Common.{rules, List, sym, subst}
use Rattle.std.specs.Ordering.{is_lt}
use Rattle.std.specs.List.Sorted.{IsSortedBy}
use Rattle.std.proofs.lemmas.Fn.{always_returns_same}
use Rattle.std.proofs.lemmas.Result.{IfOk-weaker}
use Rattle.config_box.specs.config_record.declared.coord.Coord.{Coord}
use Rattle.config_box.specs.box_answers.NumberSet.{SetOf}
use Rattle.config_box.specs.Order.{order_but}
use Rattle.config_box.specs.Least.{HasOneSet}
use Rattle.config_box.specs.ListsJoined.{AreJoinedInOrder, AreJoinedAt}
use Rattle.config_box.proofs.OrderLaws.{boxes_ranked}
use Rattle.config_box.proofs.AddSteps.{stay-at, sorted-at}
use Rattle.config_box.proofs.joined_boxes.joined_at.Goals as goal

pub returns-then-not-vary : goal.returns-then-not-vary
returns-then-not-vary c = stay-at c.args.at c.args.boxes.items (subst (HasOneSet c.args.at) c.as_slice.ensures.value c.if-not-vary.ensures)

pub returns : goal.returns
returns c =
    let at : Coord = c.args.at in
    let boxes : List (List SetOf) = c.args.boxes.items in
    let ys : List (List SetOf) = c.sort_by.new.self.items in
    let sorted : IsSortedBy (λ a b. is_lt (order_but at a b)) ys = c.in_ok-sort_by.ensures.sorted (λ a b. is_lt (order_but at a b)) (boxes_ranked at) (always_returns_same _ _ _ (λ a r f k. search rules)) in
    let vary : HasOneSet at boxes → ⊥ = λ one. c.if-not-vary.ensures (subst (HasOneSet at) (sym c.as_slice.ensures.value) one) in
    IfOk-weaker c.joined_in_order.result (λ joined. AreJoinedInOrder ys joined.items) (λ joined. AreJoinedAt at boxes joined.items)
    (λ joined h. sorted-at at boxes ys joined.items vary c.sort_by.ensures.permutation sorted h) c.joined_in_order.ensures
