use Rattle.std.proofs.Common.{rules, ◌≡◌, ◌∙◌, ap, sym, length, ℕ, List, Result}
use Rattle.config_record.specs.Coord.{all_coords}
use Rattle.notation.specs.Fault.{FaultOf}
use Rattle.notation.specs.Line.{unsaid}
use Rattle.notation.proofs.DeviceSteps.{all_said}
use Rattle.notation.proofs.line.unsaid.Goals as goal

pub returns-in-Ok-clause-value : goal.returns-in-Ok-clause-value
unfolding all_coords
returns-in-Ok-clause-value c =
    c.first_unlike.ensures ∙ ap (λ (read : Result (List ℕ) FaultOf). unsaid read c.args.device.numbers) c.in-Ok.ensures

pub returns-in-Ok-clause-all_said : goal.returns-in-Ok-clause-all_said
unfolding all_coords
returns-in-Ok-clause-all_said c = λ none.
    let read : length c.in-Ok.read.numbers ≡ 25 = search rules in
    let asked : length c.args.device.numbers ≡ 25 = search rules in
    sym c.in-Ok.ensures ∙ all_said c.in-Ok.read.numbers c.args.device.numbers (sym none ∙ c.first_unlike.ensures) read asked
