use Rattle.std.proofs.Common.{refl}
use Rattle.cert_tree.specs.WrittenJson.{locale_data}
use Rattle.cert_tree.proofs.WrittenSteps.{WrittenUpTo-pushed, WrittenUpTo-same}
use Rattle.cert_tree.proofs.write.locale_values.Goals as goal

pub loop-locale-preserved : goal.loop-locale-preserved
loop-locale-preserved c =
    WrittenUpTo-pushed locale_data (λ _. Unit {0}) c.loop-locale.values.items c.push.new.self.items c.loop-locale.locale-index c.args.locales.now _ _ c.in_ok-value.value c.loop-locale.invariant
    c.loop-locale-test.true c.in_ok-push.ensures.items refl c.in_ok-value.ensures tt

pub returns : goal.returns
returns c = WrittenUpTo-same locale_data (λ _. Unit {0}) c.loop-locale.values.items c.loop-locale.locale-index c.args.locales.now c.loop-locale.invariant c.loop-locale-test.false
