use Rattle.cert_tree.specs.WrittenJson.{locale_data}
use Rattle.cert_tree.proofs.WrittenSteps.{WrittenUpTo}
use Rattle.cert_tree.proofs.write.locale_values.Given as goal

abbrev pub invariant-loop-locale : goal.invariant-loop-locale
invariant-loop-locale l = WrittenUpTo locale_data (λ _. Unit {0}) l.values.items l.locale-index l.locales
