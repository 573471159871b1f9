use Rattle.restool.proofs.run.run_request.Goals as goal

pub returns : goal.returns
returns g c = (c.carry_out-outcome.new.errors, c.carry_out-outcome.result.outcome, c.carry_out-outcome.ensures, c.end-reported.ensures)
