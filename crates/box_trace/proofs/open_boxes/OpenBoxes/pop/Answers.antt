use Rattle.std.proofs.Common.{Some, IsSome}
use Rattle.std.proofs.lemmas.List.Elements.{All-pop}
use Rattle.box_trace.proofs.Places.{last_held}
use Rattle.box_trace.proofs.open_boxes.OpenBoxes.pop.Goals as goal

pub returns : goal.returns
returns c = let last = last_held c.self.inside.places.items c.pop.new.self.items c.in_ok-pop.field-0 c.args.self.now c.self.invariant c.self.view_is c.in_ok-pop.ensures.items in record { items = last.0; none = last.1 }

pub invariant_of-self-2 : goal.invariant_of-self-2
invariant_of-self-2 c = (All-pop IsSome c.self.inside.places.items c.pop.new.self.items (Some c.in_ok-pop.field-0) c.in_ok-pop.ensures.items c.self.invariant).0
