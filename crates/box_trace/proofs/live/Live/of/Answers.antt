use Rattle.std.proofs.Common.{map, ◌∙◌, ap, refl}
use Rattle.std.proofs.lemmas.List.{map-append}
use Rattle.box_trace.specs.Live.{live_of, candidates_in}
use Rattle.box_trace.proofs.Candidates.{judged_in, judged_out, next_live, next_marked}
use Rattle.box_trace.proofs.live.Live.of.Goals as goal
use Rattle.box_trace.proofs.live.Live.of.Goals.{in-Some+in_ok-push, in_default}

pub judged_again-requires : goal.judged_again-requires
judged_again-requires c = next_marked _ _ _ _ _ (next_live c.args.whole.now _ c.loop-live.live-index _ refl c.loop-live-test.true c.live-item.is) c.requires

pub loop-live-preserved : goal.loop-live-preserved
loop-live-preserved c =
    let ahead = ap candidates_in (next_live c.args.whole.now _ c.loop-live.live-index _ refl c.loop-live-test.true c.live-item.is) in
    elim c.match-judged_again.branch [
      | in-Some+in_ok-push w ↦ rw w.list-is (judged_in _ _ _ _ _ _ _ ahead (ap (map live_of) w.in_ok-push.ensures.items ∙ map-append live_of _ _) w.in-Some.ensures c.loop-live.invariant)
      | in_default w ↦ rw w.list-is (judged_out _ _ _ _ _ _ ahead w.in_default.ensures c.loop-live.invariant)
    ]
