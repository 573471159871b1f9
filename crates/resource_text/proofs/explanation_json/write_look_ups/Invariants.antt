use Rattle.contract_words.proofs.TextSteps.{PutsAllBut}
use Rattle.reference_resolver.specs.config_precedence.config_record.DeviceSeen.{device_numbers}
use Rattle.reference_resolver.specs.Trace.{look_ups_of}
use Rattle.resource_text.specs.ExplainJson.{look_up_json}
use Rattle.resource_text.proofs.explanation_json.write_look_ups.Given as goal

-- all look-ups were written but those from the id at hand on
abbrev pub invariant-chain : goal.invariant-chain
invariant-chain g l =
    PutsAllBut (look_up_json l.naming (device_numbers l.device)) (g.W.Write.contents l.fn.out) (g.W.Write.contents l.out)
    (look_ups_of l.naming.stack l.fn.most l.fn.id.0 (device_numbers l.device)) (look_ups_of l.naming.stack l.left l.id.0 (device_numbers l.device))

abbrev pub decreases-chain : goal.decreases-chain
decreases-chain g l = l.left
