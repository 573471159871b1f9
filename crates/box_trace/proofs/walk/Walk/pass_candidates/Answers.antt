use Rattle.std.proofs.Common.{◌≡◌, ◌<◌, arith, map, length, sym, ◌∙◌, ap, refl, subst}
use Rattle.std.proofs.lemmas.List.{length-map}
use Rattle.config_box.specs.box_answers.Members.{IsMember}
use Rattle.box_trace.specs.Live.{live_of, MarkedMatchAll}
use Rattle.box_trace.proofs.Candidates.{next_live, next_marked}
use Rattle.box_trace.proofs.Walks.{walk_on, walk_parts}
use Rattle.box_trace.proofs.walk.Walk.pass_candidates.Goals as goal

pub best_after-requires : goal.best_after-requires
best_after-requires c =
    let all : map live_of c.list-in-candidates.result.now ≡ c.candidates.self.live.value = c.list-in-candidates.ensures ∙ c.as_ref-in-candidates.ensures in
    let within : c.candidates.self.passed < length c.list-in-candidates.result.now =
    omega (arith, c.candidates-test.true, ap length (c.list.ensures ∙ c.as_ref.ensures), ap length all, length-map c.list.result.now live_of, length-map c.list-in-candidates.result.now live_of) in
    let next = next_live c.list-in-candidates.result.now c.candidates.self.live.value c.candidates.self.passed c.index-list-self.result all within c.index-list-self.is in
    next_marked _ _ _ _ _ next (subst (MarkedMatchAll (IsMember c.args.members.now)) (sym c.candidates.invariant.live) c.requires)

pub returns-in-Mixed-clause-parts : goal.returns-in-Mixed-clause-parts
returns-in-Mixed-clause-parts c = λ stack trace walked.
    let all : map live_of c.list-in-candidates.result.now ≡ c.candidates.self.live.value = c.list-in-candidates.ensures ∙ c.as_ref-in-candidates.ensures in
    let within : c.candidates.self.passed < length c.list-in-candidates.result.now =
    omega (arith, c.candidates-test.true, ap length (c.list.ensures ∙ c.as_ref.ensures), ap length all, length-map c.list.result.now live_of, length-map c.list-in-candidates.result.now live_of) in
    let next = next_live c.list-in-candidates.result.now c.candidates.self.live.value c.candidates.self.passed c.index-list-self.result all within c.index-list-self.is in
    walk_parts _ _ _ _ _ _ _ next c.in-Mixed.ensures (c.candidates.invariant.walked stack trace walked)

pub candidates-preserved : goal.candidates-preserved
candidates-preserved c =
    let all : map live_of c.list-in-candidates.result.now ≡ c.candidates.self.live.value = c.list-in-candidates.ensures ∙ c.as_ref-in-candidates.ensures in
    let within : c.candidates.self.passed < length c.list-in-candidates.result.now =
    omega (arith, c.candidates-test.true, ap length (c.list.ensures ∙ c.as_ref.ensures), ap length all, length-map c.list.result.now live_of, length-map c.list-in-candidates.result.now live_of) in
    let next = next_live c.list-in-candidates.result.now c.candidates.self.live.value c.candidates.self.passed c.index-list-self.result all within c.index-list-self.is in
    record {
      live = c.candidates.invariant.live;
      course = c.candidates.invariant.course;
      walked = λ stack trace walked. walk_on _ _ _ _ _ _ _ next c.in-One.ensures (c.candidates.invariant.walked stack trace walked) _ refl refl refl refl;
    }
