use Rattle.contract_words.proofs.TextSteps.{PutsAllBut}
use Rattle.bags_themes.specs.config_record.DeviceSeen.{device_numbers}
use Rattle.bags_themes.specs.reference_resolver.Ends.{references_followed}
use Rattle.bags_themes.specs.reference_resolver.Trace.{look_ups_of}
use Rattle.answer_text.specs.ExplainText.{look_up_text}
use Rattle.answer_text.proofs.explanation.write_look_ups.Given as goal

-- all look-ups were written but those from the id at hand on
abbrev pub invariant-chain : goal.invariant-chain
invariant-chain g l =
    PutsAllBut (look_up_text l.names.stack (device_numbers l.device) l.names.asked) (g.W.Write.contents l.fn.out) (g.W.Write.contents l.out)
    (look_ups_of l.names.stack references_followed l.fn.id.0 (device_numbers l.device)) (look_ups_of l.names.stack l.left l.id.0 (device_numbers l.device))

abbrev pub decreases-chain : goal.decreases-chain
decreases-chain g l = l.left
