use Rattle.std.proofs.Common.{sym, subst, arith}
use Rattle.config_box.specs.declared.test.Test.{Test}
use Rattle.config_box.specs.Tests.{choice_of, test_of}
use Rattle.cert_tree.specs.Certificate.{TestAt}
use Rattle.cert_tree.specs.ReadsBack.{NodeReadsBack}
use Rattle.cert_tree.proofs.ReadsBackLemmas.{in_any_case, at_most-back, among-back}
use Rattle.cert_tree.proofs.write.test_value.Goals as goal

pub returns-in_ok-coord-in-AtMost-clause-reads_back : goal.returns-in_ok-coord-in-AtMost-clause-reads_back
returns-in_ok-coord-in-AtMost-clause-reads_back c =
    in_any_case _ (subst (λ (test : Test). NodeReadsBack (TestAt (test_of test))) (sym c.in-AtMost.is) (at_most-back c.in-AtMost.coord c.in-AtMost.most (omega arith)))

pub returns-in_ok-choice_values-in-Among-clause-reads_back : goal.returns-in_ok-choice_values-in-Among-clause-reads_back
returns-in_ok-choice_values-in-Among-clause-reads_back c =
    in_any_case _ (subst (λ (test : Test). NodeReadsBack (TestAt (test_of test))) (sym c.in-Among.is) (among-back c.in-Among.coord (choice_of c.in-Among.choice) c.in_ok-choice_values-in-Among.ensures.reads_back))
