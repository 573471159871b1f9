use Rattle.std.proofs.Common.{◌∙◌, ap}
use Rattle.std.specs.Prelude.{max}
use Rattle.box_answers.proofs.tried_numbers.clamped.Goals as goal

pub returns : goal.returns
returns c = c.max.ensures ∙ ap (max c.args.low) c.min.ensures
