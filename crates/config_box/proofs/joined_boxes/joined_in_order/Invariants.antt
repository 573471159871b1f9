use Rattle.config_box.specs.ListsJoined.{AreJoinedInOrder}
use Rattle.config_box.proofs.joined_boxes.joined_in_order.Given as goal

-- those so far are joined
abbrev pub invariant-loop-next : goal.invariant-loop-next
invariant-loop-next l = AreJoinedInOrder l.yielded l.joined.items
