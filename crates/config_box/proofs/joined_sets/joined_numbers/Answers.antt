use Rattle.std.proofs.Common.{arith}
use Rattle.config_box.proofs.JoinSteps.{choice-joined}
use Rattle.config_box.proofs.joined_sets.joined_numbers.Goals as goal

pub returns : goal.returns
returns c =
    let few = c.if-others-numbers.false in
    let first = c.if-numbers-gt-MOST_VALUES.false in
    ((c.if-shares_number.ensures, omega arith), choice-joined c.args.numbers.now c.args.others.now c.in_ok-merged.field-0.items c.requires.numbers (omega arith) c.in_ok-merged.ensures)
