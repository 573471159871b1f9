use Rattle.std.proofs.Common.{map, refl}
use Rattle.bags_themes.specs.Course.{after_course}
use Rattle.bags_themes.specs.declared.course.Course.TheVariants.{Ended}
use Rattle.bags_themes.specs.reference_resolver.declared.end.End.TheVariants.{Absent}
use Rattle.bags_themes.specs.overlay_map.Candidates.{cand_of}
use Rattle.box_trace.specs.TraceAmong.{trace_among}
use Rattle.box_trace.proofs.Walks.{walk_among}
use Rattle.box_trace.proofs.walk.Walk.among.Goals as goal

pub returns-clause-walked : goal.returns-clause-walked
unfolding trace_among after_course
returns-clause-walked c = walk_among c.at_first.result (record { 0 = 0 }) (Ended (Absent (record { 0 = 0 }))) _ c.args.members.now _ (map cand_of c.args.candidates.now) c.at_first.ensures.walked (λ stack d. refl) c.in_ok-live.ensures.others
