use Rattle.std.proofs.Common.{drop}
use Rattle.contract_words.proofs.TextSteps.{PutsAllBut}
use Rattle.reference_resolver.specs.config_precedence.config_record.DeviceSeen.{device_numbers}
use Rattle.resource_text.specs.EndJson.{end_json}
use Rattle.resource_text.proofs.end_json.write_ends.Given as goal

-- the lines of all ids were written but of those that are left
abbrev pub invariant-loop-id : goal.invariant-loop-id
invariant-loop-id g l =
    PutsAllBut (end_json l.naming (device_numbers l.device)) (g.W.Write.contents l.fn.out) (g.W.Write.contents l.out) l.ids (drop l.id-index l.ids)
