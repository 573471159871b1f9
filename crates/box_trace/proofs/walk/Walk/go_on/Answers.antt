use Rattle.std.proofs.Common.{◌≡◌, ℕ, List, [], ◌++◌, sym, ◌∙◌, ap}
use Rattle.config_box.specs.box_answers.Members.{IsMember}
use Rattle.bags_themes.specs.AttributeTrace.{ended}
use Rattle.bags_themes.specs.Course.{trace_from}
use Rattle.bags_themes.specs.declared.course.CourseStep.{CourseStep}
use Rattle.box_trace.specs.Walk.{best_at, after_walk}
use Rattle.box_trace.proofs.Rests.{ends_at}
use Rattle.box_trace.proofs.Walks.{walk_next, walk_past_all}
use Rattle.box_trace.proofs.walk.Walk.go_on.Goals as goal

pub returns-in-Some-clause-common : goal.returns-in-Some-clause-common
returns-in-Some-clause-common c = λ trace walked. c.in-Some.ensures.parts c.args.stack.now trace (c.look_ups.invariant.walked trace walked)

pub returns-in-EndsAt-clause-common : goal.returns-in-EndsAt-clause-common
unfolding trace_from
returns-in-EndsAt-clause-common c = λ trace walked.
    let stack = c.args.stack.now in
    let walk = c.pass_candidates.new.self in
    let passed = c.in_default.ensures.walked stack trace (c.look_ups.invariant.walked trace walked) in
    let come = walk_past_all stack (IsMember c.args.members.now) trace walk c.in_default.ensures.none_ahead passed in
    let ends : (d : List ℕ) → after_walk stack walk (best_at walk) d ≡ ended c.in-EndsAt.end =
    λ d. sym (c.in_ok-end.ensures.same stack d) ∙ ap (λ (step : CourseStep). trace_from stack step d) c.in-EndsAt.is in
    (come.before ++ [], ends_at (IsMember c.args.members.now) trace (after_walk stack walk (best_at walk)) c.in-EndsAt.end come ends)

pub look_ups-preserved : goal.look_ups-preserved
look_ups-preserved c = record {
  marked = c.in_ok-self-in-LookUp.ensures.marked;
  walked = λ trace walked. walk_next c.args.stack.now _ trace _ _ _ _ c.in_default.ensures.none_ahead (c.in_ok-end.ensures.same c.args.stack.now) c.in-LookUp.is
      (c.in_default.ensures.walked c.args.stack.now trace (c.look_ups.invariant.walked trace walked)) c.in_ok-self-in-LookUp.ensures.walked;
}

pub look_ups-preserved-in_ok-self-in-LookUp : goal.look_ups-preserved-in_ok-self-in-LookUp
look_ups-preserved-in_ok-self-in-LookUp c = record {
  marked = c.in_ok-self-in-LookUp.ensures.marked;
  walked = λ trace walked. walk_next c.args.stack.now _ trace _ _ _ _ c.in_default.ensures.none_ahead (c.in_ok-end.ensures.same c.args.stack.now) c.in-LookUp.is
      (c.in_default.ensures.walked c.args.stack.now trace (c.look_ups.invariant.walked trace walked)) c.in_ok-self-in-LookUp.ensures.walked;
}

pub look_ups-preserved-in_ok-self-in-LookUp-2 : goal.look_ups-preserved-in_ok-self-in-LookUp-2
look_ups-preserved-in_ok-self-in-LookUp-2 c = record {
  marked = c.in_ok-self-in-LookUp.ensures.marked;
  walked = λ trace walked. walk_next c.args.stack.now _ trace _ _ _ _ c.in_default.ensures.none_ahead (c.in_ok-end.ensures.same c.args.stack.now) c.in-LookUp.is
      (c.in_default.ensures.walked c.args.stack.now trace (c.look_ups.invariant.walked trace walked)) c.in_ok-self-in-LookUp.ensures.walked;
}
