use Rattle.std.proofs.Common.{arith}
use Rattle.std.proofs.lemmas.Str.Pattern.{strip_prefix_char}
use Rattle.names.proofs.WordFileSteps.{text_behind}
use Rattle.names.proofs.name_parts.behind_sign.Goals as goal

pub returns : goal.returns
returns c = text_behind c.args.word.now c.strip_prefix.result (strip_prefix_char 64 c.args.word.now c.strip_prefix.result c.strip_prefix.ensures.cases (omega arith))
