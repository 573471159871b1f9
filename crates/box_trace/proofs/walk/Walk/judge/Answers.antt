use Rattle.std.proofs.Common.{List, sym, subst, refl}
use Rattle.config_box.specs.box_answers.Members.{IsMember}
use Rattle.box_trace.specs.Live.{LiveOf, candidates_in, LeavesOut}
use Rattle.box_trace.specs.Walk.{live_ahead}
use Rattle.box_trace.proofs.LeftOut.{left_out_over}
use Rattle.box_trace.proofs.Candidates.{marked_part}
use Rattle.box_trace.proofs.Walks.{walk_same}
use Rattle.box_trace.proofs.walk.Walk.judge.Goals as goal

pub of-requires : goal.of-requires
of-requires c = marked_part (IsMember c.args.members.now) c.args.self.now.live.value c.args.self.now.passed _ c.ahead.ensures.ahead c.requires

pub returns-clause-walked : goal.returns-clause-walked
returns-clause-walked c = λ stack trace walked.
    let members = IsMember c.args.members.now in
    let others = subst (λ (all : List LiveOf). LeavesOut members (candidates_in all) (candidates_in c.in_ok-live.live)) c.ahead.ensures.ahead c.in_ok-live.ensures.others in
    let here = candidates_in (live_ahead c.args.self.now) in
    walk_same stack members trace c.args.self.now _ (record { same = λ stack id best d. refl; few = refl }) refl refl
    (λ ahead left_out. left_out_over members ahead here (candidates_in c.in_ok-judged.judged.value) left_out (subst (λ (live : List LiveOf). LeavesOut members here (candidates_in live)) (sym c.in_ok-judged.ensures.ok) others)) walked
