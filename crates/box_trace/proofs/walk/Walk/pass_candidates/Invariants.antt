use Rattle.std.proofs.Common.{◌≡◌, ◌-◌, ℕ, List, length}
use Rattle.config_box.specs.box_answers.Members.{IsMember}
use Rattle.bags_themes.specs.overlay_map.Layer.{LayerOf}
use Rattle.bags_themes.specs.reference_resolver.Trace.{Trace}
use Rattle.box_trace.specs.Walk.{HaveWalked}
use Rattle.box_trace.proofs.walk.Walk.pass_candidates.Given as goal

abbrev pub invariant-candidates : goal.invariant-candidates
invariant-candidates l = record {
  live : l.self.live.value ≡ l.fn.self.live.value;
  course : l.self.course ≡ l.fn.self.course;
  walked : (stack : List LayerOf) (trace : List ℕ → Trace) → HaveWalked stack (IsMember l.members) trace l.fn.self → HaveWalked stack (IsMember l.members) trace l.self;
}

abbrev pub decreases-candidates : goal.decreases-candidates
decreases-candidates l = length l.fn.self.live.value - l.self.passed
