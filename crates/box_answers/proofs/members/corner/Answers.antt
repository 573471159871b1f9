use Rattle.box_answers.proofs.members.corner.Goals as goal

pub of_numbers-requires : goal.of_numbers-requires
of_numbers-requires c = λ k. (c.requires.each k).can _ (c.fill_least.ensures k).is_in

pub returns : goal.returns
returns c = λ k. rw c.of_numbers.ensures (c.fill_least.ensures k)
