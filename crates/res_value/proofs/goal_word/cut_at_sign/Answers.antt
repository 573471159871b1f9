use Rattle.std.proofs.Common.{arith}
use Rattle.std.proofs.lemmas.Str.Pattern.{split_once_first}
use Rattle.res_value.proofs.GoalWordSteps.{cut-seen}
use Rattle.res_value.proofs.goal_word.cut_at_sign.Goals as goal

pub returns : goal.returns
returns c = cut-seen c.args.word.now c.split_once.result (split_once_first 64 c.args.word.now c.split_once.result c.split_once.ensures.cases (omega arith))
