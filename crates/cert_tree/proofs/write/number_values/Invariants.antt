use Rattle.cert_tree.specs.ReadsBack.{NumberReadsBack}
use Rattle.cert_tree.specs.WrittenJson.{number_data}
use Rattle.cert_tree.proofs.WrittenSteps.{WrittenUpTo}
use Rattle.cert_tree.proofs.write.number_values.Given as goal

abbrev pub invariant-loop-number : goal.invariant-loop-number
invariant-loop-number l = WrittenUpTo number_data NumberReadsBack l.values.items l.number-index l.numbers
