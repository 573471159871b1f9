use Rattle.stack_diff.proofs.pair_box.PairBoxes.whole.Goals as goal

pub returns-in-Ok : goal.returns-in-Ok
returns-in-Ok c = record { before = c.in_ok-before.ensures; after = c.in-Ok.ensures }
