use Rattle.std.proofs.Common.{◌≡◌, ◌+◌, List, ◌∷◌, Option, map, drop, sym, ◌∙◌, ap}
use Rattle.std.proofs.lemmas.List.{drop_more}
use Rattle.std.specs.Option.{option_map}
use Rattle.config_precedence.specs.config_record.DeviceSeen.{device_numbers}
use Rattle.overlay_map.specs.declared.candidate.Cand.{Cand}
use Rattle.overlay_map.specs.Candidates.{CandOf, cand_of}
use Rattle.reference_resolver.specs.declared.step.Step.{Step}
use Rattle.reference_resolver.specs.Selection.{step_of, best_after, scan_candidates}
use Rattle.reference_resolver.specs.Takers.{last_place, places_taken}
use Rattle.reference_resolver.proofs.selection.picked_at.Goals as goal

pub loop-place-preserved : goal.loop-place-preserved
loop-place-preserved c =
    let d = device_numbers c.args.device.now in
    let all = c.args.candidates.now in
    let k = c.loop-place.place in
    let x = c.index-candidates-place.result in
    let best = option_map cand_of c.loop-place.best in
    let rest = map cand_of (drop (k + 1) all) in
    let next : drop k all ≡ x ∷ drop (k + 1) all = drop_more all k x c.loop-place-test.true ∙ ap (λ (y : Cand). y ∷ drop (k + 1) all) (sym c.index-candidates-place.is) in
    ap (λ (o : Option CandOf). last_place c.picked_after-picked.result (places_taken (k + 1) (scan_candidates step_of o rest d))) c.best_after-best.ensures
    ∙ c.picked_after-picked.ensures (scan_candidates step_of (best_after c.of-step.result best (cand_of x)) rest d)
    ∙ ap (λ (s : Step). last_place c.loop-place.picked (places_taken k (s ∷ scan_candidates step_of (best_after s best (cand_of x)) rest d))) c.of-step.ensures
    ∙ ap (λ (left : List Cand). last_place c.loop-place.picked (places_taken k (scan_candidates step_of best (map cand_of left) d))) (sym next)
    ∙ c.loop-place.invariant
