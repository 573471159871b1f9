use Rattle.std.proofs.Common.{◌≡◌, List, [], ◌∷◌, ◌++◌, refl, ap, sym, ◌∙◌}
use Rattle.stack_diff.specs.DifferenceSeen.{difference_of}
use Rattle.stack_diff.specs.declared.change.Change.{Change}
use Rattle.stack_diff.proofs.Grouping.{IsChange, adds-longer, adds-another, difference-other}
use Rattle.stack_diff.proofs.grouped.add_behind.Goals as goal

pub returns-then-tells_same : goal.returns-then-tells_same
returns-then-tells_same c =
    adds-longer c.args.leaf _ c.args.changes.now.items _ c.args.last c.in_ok-with_box.field-0 refl c.in_ok-push.ensures.items
    (sym (ap difference_of c.deref.ensures) ∙ c.if-tells_same.ensures ∙ ap difference_of c.deref-2.ensures)
    (record { difference = c.in_ok-with_box.ensures.difference; boxes = c.in_ok-with_box.ensures.boxes })

pub returns : goal.returns
returns c =
    let front : List Change = c.args.changes.now.items in
    let change : Change = c.in_ok-of.field-0 in
    let pushed : c.push-3.new.self.items ≡ (front ++ c.args.last ∷ []) ++ change ∷ [] =
    c.in_ok-push-3.ensures.items ∙ ap (λ (changes : List Change). changes ++ change ∷ []) c.in_ok-push-2.ensures.items in
    let is : IsChange change c.args.leaf.difference.value (c.args.leaf.members ∷ []) = record { difference = c.in_ok-of.ensures.difference; boxes = c.in_ok-of.ensures.boxes } in
    adds-another c.args.leaf _ _ change pushed is (difference-other c.args.leaf front _ _ c.args.last change refl pushed is
    (λ one. c.if-tells_same.ensures (ap difference_of c.deref.ensures ∙ one ∙ sym (ap difference_of c.deref-2.ensures))))
