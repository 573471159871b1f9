use Rattle.names.proofs.LabelReads.{name-back}
use Rattle.names.proofs.laws.name_reads_back.Goals as goal

pub returns : goal.returns
returns c = name-back
