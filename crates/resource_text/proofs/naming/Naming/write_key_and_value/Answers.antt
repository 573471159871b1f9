use Rattle.std.proofs.Common.{ap, ◌∙◌}
use Rattle.names.specs.NamedIds.{packages_of}
use Rattle.answer_text.specs.ValueContent.{value_content}
use Rattle.resource_text.specs.Naming.{NamingOf}
use Rattle.resource_text.proofs.NamingSteps.{row-written}
use Rattle.resource_text.proofs.naming.Naming.write_key_and_value.Goals as goal

pub returns : goal.returns
returns g c =
    row-written c.write_row_notation-written.result _ _ _ _ c.args.self.now _ _ _ _ (c.self.invariant ∙ ap (λ (naming : NamingOf). packages_of naming.stack) c.self.view_is)
    (c.in_ok-value.ensures ∙ ap (λ (naming : NamingOf). value_content naming.stack c.args.row.layer c.args.row.value) c.self.view_is)
    c.in_ok-write_key_notation.ensures c.in_ok-write_all.ensures.bytes c.write_row_notation-written.ensures
