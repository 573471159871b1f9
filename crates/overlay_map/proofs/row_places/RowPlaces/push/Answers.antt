use Rattle.std.proofs.Common.{◌≡◌, ◌+◌, length, arith}
use Rattle.std.proofs.lemmas.Result.{on_ok_weaker}
use Rattle.overlay_map.proofs.PlaceSteps.{link-pushed}
use Rattle.overlay_map.proofs.row_places.RowPlaces.push.Goals as goal

pub returns-clause-added : goal.returns-clause-added
returns-clause-added c = on_ok_weaker c.set.result (λ sets linked.
    let old = c.args.self.now in
    let last : c.in-Ok.head ≡ length old.links.items + 1 = omega (arith, c.in-Ok.ensures, c.len.ensures, c.in_ok-push.ensures.len, old.links.ok) in
    rw c.in_ok-push.ensures.items
    (link-pushed old.links.items (record { type_number = c.args.type_number; next = c.get-next.result }) old.heads c.set.new.self c.args.id.0 c.in-Ok.head linked last c.get-next.ensures sets)) c.set.ensures
