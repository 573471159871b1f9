use Rattle.std.proofs.Common.{OnOk, sym, subst}
use Rattle.std.specs.Io.KnownBytes.{Appends}
use Rattle.reference_resolver.specs.declared.decision.Decision.{Decision}
use Rattle.resource_text.specs.DecisionWords.{decision_notation}
use Rattle.resource_text.proofs.decision_words.write_decision.Goals as goal

pub returns-in-SetAside : goal.returns-in-SetAside
unfolding decision_notation
returns-in-SetAside g c =
    let contents = g.W.Write.contents in
    let call = c.write_all in
    subst (λ (decision : Decision). OnOk call.result (Appends (contents c.args.out.now) (contents call.new.self) (decision_notation decision))) (sym c.in-SetAside.is) call.ensures.bytes

pub returns-in-TookOverEqual : goal.returns-in-TookOverEqual
unfolding decision_notation
returns-in-TookOverEqual g c =
    let contents = g.W.Write.contents in
    let call = c.write_all-in-TookOverEqual in
    subst (λ (decision : Decision). OnOk call.result (Appends (contents c.args.out.now) (contents call.new.self) (decision_notation decision))) (sym c.in-TookOverEqual.is) call.ensures.bytes
