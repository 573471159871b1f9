use Rattle.std.proofs.Common.{◌≡◌, List, [], ◌∷◌, ◌++◌, sym, ◌∙◌, ap}
use Rattle.std.proofs.lemmas.List.{append-nil, nil_from_length}
use Rattle.stack_diff.specs.declared.change.Change.{Change}
use Rattle.stack_diff.proofs.Grouping.{IsChange, adds-another, difference-first}
use Rattle.stack_diff.proofs.grouped.add_leaf.Goals as goal

pub returns-in_ok-push-in-None : goal.returns-in_ok-push-in-None
returns-in_ok-push-in-None c =
    let left : List Change = c.pop.new.self.items in
    let change : Change = c.in_ok-of-in-None.field-0 in
    let none : c.args.changes.now.items ≡ [] = nil_from_length _ (sym c.args.changes.now.ok.0 ∙ c.in-None.ensures.cases.0) in
    let same : left ≡ c.args.changes.now.items = sym (c.in-None.ensures.items ∙ append-nil left) in
    let pushed = c.in_ok-push-in-None.ensures.items in
    let is : IsChange change c.args.leaf.difference.value (c.args.leaf.members ∷ []) = record { difference = c.in_ok-of-in-None.ensures.difference; boxes = c.in_ok-of-in-None.ensures.boxes } in
    adds-another c.args.leaf _ _ change (pushed ∙ ap (λ (changes : List Change). changes ++ change ∷ []) same) is
    (difference-first c.args.leaf _ _ change none (pushed ∙ ap (λ (changes : List Change). changes ++ change ∷ []) (same ∙ none)) is)
