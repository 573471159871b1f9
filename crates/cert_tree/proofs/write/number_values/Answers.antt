use Rattle.std.proofs.Common.{arith, get_or, refl}
use Rattle.cert_tree.specs.WrittenJson.{number_data}
use Rattle.cert_tree.specs.ReadsBack.{NumberReadsBack}
use Rattle.cert_tree.proofs.ReadsBackLemmas.{number-back}
use Rattle.cert_tree.proofs.WrittenSteps.{WrittenUpTo-pushed, WrittenUpTo-same, WrittenUpTo-each}
use Rattle.cert_tree.proofs.write.number_values.Goals as goal

pub loop-number-preserved : goal.loop-number-preserved
loop-number-preserved c =
    let n = get_or c.args.numbers.now c.loop-number.number-index 0 in
    WrittenUpTo-pushed number_data NumberReadsBack c.loop-number.values.items c.push.new.self.items c.loop-number.number-index c.args.numbers.now n 0 c.from.result c.loop-number.invariant c.loop-number-test.true
    c.in_ok-push.ensures.items refl c.from.ensures (number-back n (omega (arith, c.type_inv.numbers c.loop-number.number-index)))

pub returns-clause-data : goal.returns-clause-data
returns-clause-data c = WrittenUpTo-same number_data NumberReadsBack c.loop-number.values.items c.loop-number.number-index c.args.numbers.now c.loop-number.invariant c.loop-number-test.false

pub returns-clause-reads_back : goal.returns-clause-reads_back
returns-clause-reads_back c = WrittenUpTo-each number_data NumberReadsBack c.loop-number.values.items c.loop-number.number-index c.args.numbers.now c.loop-number.invariant c.loop-number-test.false
