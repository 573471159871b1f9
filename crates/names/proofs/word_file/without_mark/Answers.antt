use Rattle.names.proofs.WordFileSteps.{without_mark_seen}
use Rattle.names.proofs.word_file.without_mark.Goals as goal

pub returns : goal.returns
returns c = rw c.unwrap_or.ensures (without_mark_seen c.args.text c.strip_prefix.result c.strip_prefix.ensures.cases)
