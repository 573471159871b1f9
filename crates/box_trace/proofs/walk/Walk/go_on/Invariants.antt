use Rattle.std.proofs.Common.{ℕ, List}
use Rattle.config_box.specs.box_answers.Members.{IsMember}
use Rattle.bags_themes.specs.reference_resolver.Trace.{Trace}
use Rattle.bags_themes.specs.Course.{look_ups_after}
use Rattle.box_trace.specs.Live.{MarkedMatchAll}
use Rattle.box_trace.specs.Walk.{HaveWalked}
use Rattle.box_trace.proofs.walk.Walk.go_on.Given as goal

abbrev pub invariant-look_ups : goal.invariant-look_ups
invariant-look_ups l = record {
  marked : MarkedMatchAll (IsMember l.members) l.self.live.value;
  walked : (trace : List ℕ → Trace) → HaveWalked l.stack (IsMember l.members) trace l.fn.self → HaveWalked l.stack (IsMember l.members) trace l.self;
}

abbrev pub decreases-look_ups : goal.decreases-look_ups
decreases-look_ups l = look_ups_after l.self.course
