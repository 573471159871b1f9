use Rattle.std.proofs.Common.{map, ◌∙◌, ap}
use Rattle.std.proofs.lemmas.List.{map-append}
use Rattle.box_trace.specs.Live.{live_of}
use Rattle.box_trace.proofs.Candidates.{judged_in, judged_out}
use Rattle.box_trace.proofs.live.Live.new.Goals as goal

pub loop-candidate-preserved-in-Continue-1 : goal.loop-candidate-preserved-in-Continue-1
loop-candidate-preserved-in-Continue-1 c = record {
  can = tt;
  ends = tt;
  judged = judged_in _ _ _ _ _ _ _ c.in-Some.ensures.steps (ap (map live_of) c.in_ok-push.ensures.items ∙ map-append live_of _ _) c.in-Some-judged.ensures c.loop-candidate.invariant.judged;
}

pub loop-candidate-preserved : goal.loop-candidate-preserved
loop-candidate-preserved c = record { can = tt; ends = tt; judged = judged_out _ _ _ _ _ _ c.in-Some.ensures.steps c.in_default.ensures c.loop-candidate.invariant.judged }
