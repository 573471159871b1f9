use Rattle.std.proofs.Common.{◌≡◌, ◌+◌, ◌∷◌, map, drop, sym, ◌∙◌, ap}
use Rattle.std.proofs.lemmas.List.{map-append, drop_more}
use Rattle.bags_themes.specs.overlay_map.declared.candidate.Cand.{Cand}
use Rattle.bags_themes.specs.overlay_map.Candidates.{cand_of}
use Rattle.box_trace.specs.Live.{live_of}
use Rattle.box_trace.proofs.Candidates.{judged_in, judged_out}
use Rattle.box_trace.proofs.live.Live.among.Goals as goal
use Rattle.box_trace.proofs.live.Live.among.Goals.{in-Some+in_ok-push, in_default}

pub loop-candidate-preserved : goal.loop-candidate-preserved
loop-candidate-preserved c =
    let all = c.args.candidates.now in
    let k = c.loop-candidate.candidate-index in
    let x = c.candidate-item.result in
    let next : drop k all ≡ x ∷ drop (k + 1) all = drop_more all k x c.loop-candidate-test.true ∙ ap (λ (y : Cand). y ∷ drop (k + 1) all) (sym c.candidate-item.is) in
    let ahead = ap (map cand_of) next in
    elim c.match-judged.branch [
      | in-Some+in_ok-push w ↦ rw w.list-is (judged_in _ _ _ _ _ _ _ ahead (ap (map live_of) w.in_ok-push.ensures.items ∙ map-append live_of _ _) w.in-Some.ensures c.loop-candidate.invariant)
      | in_default w ↦ rw w.list-is (judged_out _ _ _ _ _ _ ahead w.in_default.ensures c.loop-candidate.invariant)
    ]
