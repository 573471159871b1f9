use Rattle.cert_tree.specs.ReadsBack.{IdReadsBack}
use Rattle.cert_tree.specs.WrittenJson.{id_data}
use Rattle.cert_tree.proofs.WrittenSteps.{WrittenUpTo}
use Rattle.cert_tree.proofs.write.id_values.Given as goal

abbrev pub invariant-loop-id : goal.invariant-loop-id
invariant-loop-id l = WrittenUpTo id_data IdReadsBack l.values.items l.id-index l.ids
