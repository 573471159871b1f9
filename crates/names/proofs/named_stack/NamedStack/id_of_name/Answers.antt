use Rattle.std.proofs.Common.{sym, ap, ◌∙◌}
use Rattle.names.specs.Label.{label_of}
use Rattle.names.specs.StackLabels.{first_with, labelled, names_in}
use Rattle.names.proofs.NamedSteps.{name-found}
use Rattle.names.proofs.NotedSteps.{found_as}
use Rattle.names.proofs.SideBySide.{none-named}
use Rattle.names.proofs.named_stack.NamedStack.id_of_name.Goals as goal

pub returns-in-Name : goal.returns-in-Name
returns-in-Name c =
    let label = c.args.label.now in
    c.copied.ensures ∙ c.get.ensures.value ∙ found_as c.self.inside.labels label ∙ c.self.invariant.0 (label_of label)
    ∙ ap (λ layers. first_with (labelled layers) (label_of label)) c.self.view_is
    ∙ name-found c.args.self.now label _ _ _ c.in-Name.is

pub returns-in-Id : goal.returns-in-Id
returns-in-Id c = sym (ap (λ label. first_with (names_in c.args.self.now) (label_of label)) c.in-Id.is ∙ none-named c.args.self.now c.in-Id.field-0)
