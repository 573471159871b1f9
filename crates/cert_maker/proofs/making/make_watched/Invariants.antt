use Rattle.std.proofs.Common.{drop, map}
use Rattle.cert_checker.specs.res_value.Goal.{goal_seen}
use Rattle.cert_maker.specs.Trees.{AreGrown}
use Rattle.cert_maker.proofs.making.make_watched.Given as goal

abbrev pub invariant-loop-place : goal.invariant-loop-place
invariant-loop-place g l = AreGrown l.stack l.members (map goal_seen l.asked) (map goal_seen (drop l.place l.asked)) l.max_nodes l.trees
