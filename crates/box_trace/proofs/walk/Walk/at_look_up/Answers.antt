use Rattle.bags_themes.specs.overlay_map.Candidates.{candidates_of}
use Rattle.box_trace.proofs.Rests.{begins}
use Rattle.box_trace.proofs.Walks.{walk_first}
use Rattle.box_trace.proofs.walk.Walk.at_look_up.Goals as goal

pub returns-clause-walked : goal.returns-clause-walked
returns-clause-walked c =
    let stack = c.args.stack.now in
    walk_first c.at_first.result c.args.id c.args.course _ stack c.args.members.now _ (candidates_of stack c.args.id.0) c.at_first.ensures.walked (begins stack c.args.id c.args.course) c.in_ok-live.ensures.others
