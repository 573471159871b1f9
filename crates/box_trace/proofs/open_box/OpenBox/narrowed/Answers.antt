use Rattle.box_trace.proofs.Walks.{walk_fewer}
use Rattle.box_trace.proofs.open_box.OpenBox.narrowed.Goals as goal

pub returns-clause-reached : goal.returns-clause-reached
returns-clause-reached c = λ stack trace reached. walk_fewer _ _ _ _ _ c.requires (c.in_ok-shared.ensures.walked stack _ trace reached)
