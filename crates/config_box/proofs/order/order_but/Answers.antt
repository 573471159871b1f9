use Rattle.std.proofs.Common.{◌≡◌, ap, sym, ◌∙◌}
use Rattle.std.specs.Ordering.{ordering_then}
use Rattle.box_answers.specs.NumberSet.{SetOf, set_of}
use Rattle.box_answers.specs.Members.{sets_of, set_at}
use Rattle.config_box.specs.Order.{set_order}
use Rattle.config_box.proofs.OrderSteps.{then-decided, then-alike, before-order, behind-order, but-before, but-behind}
use Rattle.config_box.proofs.order.order_but.Goals as goal

pub returns-in_default : goal.returns-in_default
returns-in_default c =
    but-before c.args.at (sets_of c.args.sets.now) (sets_of c.args.others.now) c.order.result (before-order c.args.sets.now c.args.others.now _ _ _ c.order.ensures c.place-place.ensures.value) c.in_default.not-Equal

pub returns-in-Equal-order : goal.returns-in-Equal-order
returns-in-Equal-order c =
    let here : c.set_order.result ≡ set_order (set_at (sets_of c.args.sets.now) c.args.at) (set_at (sets_of c.args.others.now) c.args.at) =
    c.set_order.ensures
    ∙ ap (λ (s : SetOf). set_order s (set_of c.set_at-in-Equal-order.result.now)) c.set_at.ensures
    ∙ ap (λ (s : SetOf). set_order (set_at (sets_of c.args.sets.now) c.args.at) s) c.set_at-in-Equal-order.ensures in
    let behind = behind-order c.args.sets.now c.args.others.now _ _ _ c.order-2.ensures c.place-place.ensures.value in
    but-behind c.args.at (sets_of c.args.sets.now) (sets_of c.args.others.now) c.order.result c.set_order.result (before-order c.args.sets.now c.args.others.now _ _ _ c.order.ensures c.place-place.ensures.value)
    c.in-Equal.is (here ∙ sym (then-alike _ _ (sym behind ∙ c.in-Equal-order.is)))

pub returns-in_default-order : goal.returns-in_default-order
returns-in_default-order c =
    let here = set_order (set_at (sets_of c.args.sets.now) c.args.at) (set_at (sets_of c.args.others.now) c.args.at) in
    let behind = behind-order c.args.sets.now c.args.others.now _ _ _ c.order-2.ensures c.place-place.ensures.value in
    but-behind c.args.at (sets_of c.args.sets.now) (sets_of c.args.others.now) c.order.result c.order-2.result (before-order c.args.sets.now c.args.others.now _ _ _ c.order.ensures c.place-place.ensures.value)
    c.in-Equal.is (sym (ap (λ o. ordering_then o here) (sym behind) ∙ then-decided c.order-2.result here c.in_default-order.not-Equal))
