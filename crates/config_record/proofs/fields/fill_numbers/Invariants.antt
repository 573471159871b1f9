use Rattle.config_record.specs.Device.{number_in}
use Rattle.config_record.proofs.FillSteps.{FillsAllBut}
use Rattle.config_record.proofs.fields.fill_numbers.Given as goal

abbrev pub invariant-loop-place : goal.invariant-loop-place
invariant-loop-place l = FillsAllBut (number_in l.asked l.locale) l.numbers l.place l.coords
