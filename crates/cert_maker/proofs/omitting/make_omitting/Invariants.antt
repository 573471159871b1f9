use Rattle.std.proofs.Common.{map}
use Rattle.cert_checker.specs.res_value.Goal.{goal_seen}
use Rattle.cert_maker.specs.Judged.{AreJudgedIn}
use Rattle.cert_maker.proofs.omitting.make_omitting.Given as goal

abbrev pub invariant-loop-place : goal.invariant-loop-place
invariant-loop-place g l = AreJudgedIn l.stack l.members (map goal_seen l.asked) l.place l.max_nodes l.judged
