use Rattle.std.proofs.Common.{ap, ◌∙◌}
use Rattle.std.proofs.lemmas.Result.{IfOk-weaker}
use Rattle.names.specs.StackLabels.{first_with, labelled}
use Rattle.names.proofs.named_stack.NamedStack.labels.Goals as goal

pub returns : goal.returns
returns c =
    IfOk-weaker c.labels_in.result _ _ (λ labels are. record {
      rising = are.rising;
      found = λ label. are.found label ∙ c.self.invariant.0 label ∙ ap (λ layers. first_with (labelled layers) label) c.self.view_is;
    })
    c.labels_in.ensures
