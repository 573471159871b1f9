use Rattle.std.proofs.Common.{map, drop}
use Rattle.config_box.specs.box_answers.Members.{IsMember}
use Rattle.bags_themes.specs.overlay_map.Candidates.{cand_of}
use Rattle.box_trace.specs.Live.{live_of}
use Rattle.box_trace.proofs.Candidates.{JudgedTo}
use Rattle.box_trace.proofs.live.Live.among.Given as goal

abbrev pub invariant-loop-candidate : goal.invariant-loop-candidate
invariant-loop-candidate l = JudgedTo (IsMember l.members) (map cand_of l.candidates) (map cand_of (drop l.candidate-index l.candidates)) (map live_of l.list.items)
