use Rattle.std.proofs.Common.{map}
use Rattle.config_box.specs.box_answers.Members.{IsMember}
use Rattle.bags_themes.specs.overlay_map.Candidates.{candidates_of}
use Rattle.box_trace.specs.Live.{live_of}
use Rattle.box_trace.proofs.Candidates.{JudgedTo}
use Rattle.box_trace.proofs.live.Live.new.Given as goal

abbrev pub invariant-loop-candidate : goal.invariant-loop-candidate
invariant-loop-candidate l = record {
  can : (goal.iterator-loop-candidate).can_next l.candidate-iterator;
  ends : (goal.iterator-loop-candidate).is_finite l.candidate-iterator;
  judged : JudgedTo (IsMember l.members) (candidates_of l.stack l.fn.id.0) l.candidate-iterator (map live_of l.list.items);
}
