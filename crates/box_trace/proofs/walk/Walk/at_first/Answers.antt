use Rattle.std.proofs.Common.{List, sym, subst}
use Rattle.config_box.specs.box_answers.Members.{IsMember}
use Rattle.box_trace.specs.Live.{LiveOf, candidates_in, LeavesOut}
use Rattle.box_trace.proofs.Rests.{come_nowhere}
use Rattle.box_trace.proofs.walk.Walk.at_first.Goals as goal

pub returns-clause-walked : goal.returns-clause-walked
returns-clause-walked c = λ stack sets trace ahead same left_out. record {
  ahead = ahead;
  come = come_nowhere _ _ _ same;
  left_out = subst (λ (live : List LiveOf). LeavesOut (IsMember sets) ahead (candidates_in live)) (sym c.in_ok-live.ensures.ok) left_out;
}
