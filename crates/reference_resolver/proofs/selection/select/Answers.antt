use Rattle.std.proofs.Common.{rules, ◌≡◌, None, subst, Option}
use Rattle.std.specs.Option.{option_map}
use Rattle.config_precedence.specs.config_record.DeviceSeen.{device_numbers}
use Rattle.overlay_map.specs.Candidates.{CandOf, cand_of, candidates_of}
use Rattle.reference_resolver.specs.Selection.{best_of}
use Rattle.reference_resolver.specs.Takers.{IsTheSelected}
use Rattle.reference_resolver.specs.OrderLaw.{OrderDoesNotMatter}
use Rattle.reference_resolver.proofs.Places.{best_is_selected}
use Rattle.reference_resolver.proofs.AnyOrder.{order_does_not_matter}
use Rattle.reference_resolver.proofs.selection.select.Goals as goal

best_of_all : (c : goal.In-None) → best_of None (candidates_of c.args.stack.now c.args.id.0) (device_numbers c.args.device.now) ≡ option_map cand_of c.loop-candidate.best
best_of_all c = search rules

pub returns-clause-takers : goal.returns-clause-takers
returns-clause-takers c =
    let d = device_numbers c.args.device.now in
    let candidates = candidates_of c.args.stack.now c.args.id.0 in
    subst (λ (o : Option CandOf). IsTheSelected candidates d o) (best_of_all c) (best_is_selected candidates d)

pub returns-clause-order : goal.returns-clause-order
returns-clause-order c =
    let d = device_numbers c.args.device.now in
    let candidates = candidates_of c.args.stack.now c.args.id.0 in
    subst (λ (o : Option CandOf). OrderDoesNotMatter candidates d o) (best_of_all c) (order_does_not_matter candidates d)
