use Rattle.std.proofs.Common.{map, drop}
use Rattle.config_box.specs.box_answers.Members.{IsMember}
use Rattle.box_trace.specs.Live.{live_of, candidates_in}
use Rattle.box_trace.proofs.Candidates.{JudgedTo}
use Rattle.box_trace.proofs.live.Live.of.Given as goal

abbrev pub invariant-loop-live : goal.invariant-loop-live
invariant-loop-live l = JudgedTo (IsMember l.members) (candidates_in (map live_of l.whole)) (candidates_in (drop l.live-index (map live_of l.whole))) (map live_of l.list.items)
