use Rattle.names.proofs.IdLabels.{label_tells_id}
use Rattle.names.proofs.laws.label_tells_id.Goals as goal

pub returns : goal.returns
returns c = label_tells_id
