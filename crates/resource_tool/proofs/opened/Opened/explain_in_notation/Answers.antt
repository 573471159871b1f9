use Rattle.resource_tool.proofs.opened.Opened.explain_in_notation.Goals as goal

pub returns : goal.returns
returns g c =
    let printed = rw (c.status_of_end-status.ensures, c.resolve.ensures.value, c.deref.ensures.value, c.in_ok-text.ensures) at c.print_text.ensures in
    printed
