use Rattle.std.proofs.Common.{arith}
use Rattle.std.proofs.lemmas.Str.Pattern.{split_once_first}
use Rattle.names.proofs.ColonSteps.{cut-seen}
use Rattle.names.proofs.type_word.cut_at_colon.Goals as goal

pub returns : goal.returns
returns c = cut-seen c.args.text.now c.split_once.result (split_once_first 58 c.args.text.now c.split_once.result c.split_once.ensures.cases (omega arith))
