use Rattle.std.proofs.lemmas.Bool.{false_from_ne_true, true_from_ne_false}
use Rattle.box_answers.proofs.sameness.answer_of_all.Goals as goal

pub returns-in_default : goal.returns-in_default
returns-in_default c = λ d m. false_from_ne_true _ (c.in_default.ensures.none d m)

pub returns-in_default-member_where : goal.returns-in_default-member_where
returns-in_default-member_where c = λ d m. true_from_ne_false _ (c.in_default-member_where.ensures.none d m)

pub returns : goal.returns
returns c = c.neighbours-pair.ensures
