use Rattle.std.proofs.Common.{None}
use Rattle.bags_themes.specs.overlay_map.Candidates.{cand_of}
use Rattle.box_trace.specs.Parting.{answer_of}
use Rattle.box_trace.proofs.AtCandidate.{matched}
use Rattle.box_trace.proofs.parting.parting_at.Goals as goal

pub returns-then-parts-clause-asks : goal.returns-then-parts-clause-asks
unfolding answer_of
returns-then-parts-clause-asks c = λ d. matched None (cand_of c.args.candidate.now) d
