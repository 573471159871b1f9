use Rattle.std.proofs.Common.{◌≡◌, List, sym, subst, ◌∙◌}
use Rattle.std.proofs.lemmas.List.{map-id}
use Rattle.std.proofs.lemmas.Iterator.Adapters.{YieldsList-from_vec}
use Rattle.std.proofs.lemmas.Iterator.Consumers.{YieldsList-end}
use Rattle.config_box.specs.box_answers.NumberSet.{SetOf}
use Rattle.config_box.specs.ListsJoined.{AreJoinedInOrder}
use Rattle.config_box.proofs.AddSteps.{none-in_order, next-in_order}
use Rattle.config_box.proofs.joined_boxes.joined_in_order.Goals as goal

pub loop-next-init : goal.loop-next-init
loop-next-init c = none-in_order c.in_ok-joined.joined.items c.in_ok-joined.ensures.items

pub loop-next-preserved : goal.loop-next-preserved
loop-next-preserved c = next-in_order c.loop-next.yielded c.loop-next.joined.items c.add.new.boxes.items c.in-Some.next c.loop-next.invariant c.in_ok-add.ensures

pub returns : goal.returns
returns c =
    let start = c.into_iter-next-iterator.ensures.into_iter_gives in
    let end = YieldsList-end (YieldsList-from_vec c.args.boxes.items start.0 (start.1 ∙ c.args.boxes.ok.0)) c.loop-next.yielded c.loop-next.next-iterator c.loop-next.yielded_by c.next.result c.next.new.self c.in-None.is c.next.ensures.steps in
    let all : c.loop-next.yielded ≡ c.args.boxes.items = sym (map-id c.loop-next.yielded) ∙ end.0 in
    subst (λ (l : List (List SetOf)). AreJoinedInOrder l c.loop-next.joined.items) all c.loop-next.invariant
