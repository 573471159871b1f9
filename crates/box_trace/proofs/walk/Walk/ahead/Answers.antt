use Rattle.std.proofs.Common.{◌∙◌}
use Rattle.config_box.specs.box_answers.Members.{IsMember}
use Rattle.box_trace.proofs.Candidates.{live_part}
use Rattle.box_trace.proofs.Told.{walk_tells}
use Rattle.box_trace.proofs.walk.Walk.ahead.Goals as goal

pub returns-clause-ahead : goal.returns-clause-ahead
returns-clause-ahead c = live_part c.list.result.now c.args.self.now.live.value c.args.self.now.passed (c.list.ensures ∙ c.as_ref.ensures)

pub returns-clause-told : goal.returns-clause-told
returns-clause-told c = λ stack sets trace walked. walk_tells stack (IsMember sets) trace c.args.self.now walked
