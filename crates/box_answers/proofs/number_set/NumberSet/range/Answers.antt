use Rattle.box_answers.proofs.number_set.NumberSet.range.Goals as goal

pub returns-else-low-high : goal.returns-else-low-high
returns-else-low-high c = c.if-low-high.false
