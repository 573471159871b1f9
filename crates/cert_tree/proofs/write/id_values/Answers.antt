use Rattle.std.proofs.Common.{refl}
use Rattle.cert_tree.specs.ReadsBack.{IdReadsBack}
use Rattle.cert_tree.specs.WrittenJson.{id_data}
use Rattle.cert_tree.proofs.WrittenSteps.{WrittenUpTo-pushed, WrittenUpTo-same, WrittenUpTo-each}
use Rattle.cert_tree.proofs.write.id_values.Goals as goal

pub loop-id-preserved : goal.loop-id-preserved
loop-id-preserved c =
    WrittenUpTo-pushed id_data IdReadsBack c.loop-id.values.items c.push.new.self.items c.loop-id.id-index c.args.ids.now _ _ c.in_ok-value.value c.loop-id.invariant
    c.loop-id-test.true c.in_ok-push.ensures.items refl c.in_ok-value.ensures.data c.in_ok-value.ensures.reads_back

pub returns-clause-data : goal.returns-clause-data
returns-clause-data c = WrittenUpTo-same id_data IdReadsBack c.loop-id.values.items c.loop-id.id-index c.args.ids.now c.loop-id.invariant c.loop-id-test.false

pub returns-clause-reads_back : goal.returns-clause-reads_back
returns-clause-reads_back c = WrittenUpTo-each id_data IdReadsBack c.loop-id.values.items c.loop-id.id-index c.args.ids.now c.loop-id.invariant c.loop-id-test.false
