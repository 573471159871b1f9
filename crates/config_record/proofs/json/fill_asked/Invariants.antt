use Rattle.json_tokens.specs.Fields.{slots_seen}
use Rattle.config_record.specs.DeviceKinds.{number_asked_at}
use Rattle.config_record.proofs.FillSteps.{FillsAllBut}
use Rattle.config_record.proofs.json.fill_asked.Given as goal

abbrev pub invariant-loop-place : goal.invariant-loop-place
invariant-loop-place l = FillsAllBut (number_asked_at (slots_seen l.slots)) l.numbers l.place l.coords
