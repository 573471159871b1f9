use Rattle.std.proofs.Common.{◌∙◌, ap, List, ℕ, chars, false}
use Rattle.unicode_width.specs.Width.{str_width}
use Rattle.resource_text.proofs.ColumnSteps.{width-of_text, width-of_bytes}
use Rattle.resource_text.proofs.columns.width_of.Goals as goal

pub returns-in-Ok : goal.returns-in-Ok
returns-in-Ok c =
    c.width.ensures.value
    ∙ ap (λ (text : List ℕ). str_width false (chars text)) c.in-Ok.ensures.cases.0
    ∙ width-of_text c.args.text.now c.in-Ok.ensures.cases.1

pub returns-in-Err : goal.returns-in-Err
returns-in-Err c = width-of_bytes c.args.text.now c.in-Err.ensures.cases.0
