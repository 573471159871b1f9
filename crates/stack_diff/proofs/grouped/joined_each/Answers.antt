use Rattle.std.proofs.Common.{◌≡◌, List, [], ◌∷◌, ◌++◌, sym, subst, ◌∙◌}
use Rattle.std.specs.List.{AllZip}
use Rattle.std.proofs.lemmas.List.{map-id}
use Rattle.std.proofs.lemmas.List.Elements.{AllZip-push}
use Rattle.std.proofs.lemmas.Iterator.Adapters.{YieldsList-from_vec}
use Rattle.std.proofs.lemmas.Iterator.Consumers.{YieldsList-end}
use Rattle.stack_diff.specs.declared.change.Change.{Change}
use Rattle.stack_diff.specs.Grouped.{JoinsBoxes}
use Rattle.stack_diff.proofs.grouped.joined_each.Goals as goal

pub loop-change-preserved : goal.loop-change-preserved
loop-change-preserved c =
    subst (AllZip JoinsBoxes (c.loop-change.yielded ++ c.in-Some.change ∷ [])) (sym c.in_ok-push.ensures.items)
    (AllZip-push JoinsBoxes c.loop-change.yielded c.loop-change.joined.items c.in-Some.change c.in_ok-joined-2.field-0 c.loop-change.invariant c.in_ok-joined-2.ensures)

pub returns : goal.returns
returns c =
    let start = c.into_iter-change-iterator.ensures.into_iter_gives in
    let end = YieldsList-end (YieldsList-from_vec c.args.changes.items start.0 (start.1 ∙ c.args.changes.ok.0)) c.loop-change.yielded c.loop-change.change-iterator c.loop-change.yielded_by c.next.result c.next.new.self c.in-None.is c.next.ensures.steps in
    let all : c.loop-change.yielded ≡ c.args.changes.items = sym (map-id c.loop-change.yielded) ∙ end.0 in
    subst (λ (l : List Change). AllZip JoinsBoxes l c.loop-change.joined.items) all c.loop-change.invariant
