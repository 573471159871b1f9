use Rattle.std.proofs.Common.{◌++◌, ◌∷◌, [], map, ap, ◌∙◌}
use Rattle.std.proofs.lemmas.List.{map_push}
use Rattle.std.specs.Option.{option_map}
use Rattle.answer_text.specs.overlay_map.Candidates.{cand_of}
use Rattle.reference_resolver.specs.config_precedence.config_record.DeviceSeen.{device_numbers}
use Rattle.reference_resolver.specs.declared.decision.Decision.{Decision}
use Rattle.reference_resolver.specs.declared.step.Step.{Step}
use Rattle.reference_resolver.specs.Selection.{best_after}
use Rattle.reference_resolver.specs.Trace.{TracedCandidateOf}
use Rattle.resource_text.specs.TracedSeen.{traced_of}
use Rattle.resource_text.proofs.LineSteps.{traced-next}
use Rattle.resource_text.proofs.explanation.traced_candidates.Goals as goal

pub loop-candidate-preserved : goal.loop-candidate-preserved
loop-candidate-preserved c =
    let l = c.loop-candidate in
    let best = option_map cand_of l.best in
    let seen = cand_of c.in-Some.candidate in
    let old = map traced_of l.traced.items in
    let told : Decision → TracedCandidateOf = λ decision. record { candidate = seen; decision = decision } in
    record {
      can = tt;
      ends = tt;
      all = traced-next (device_numbers c.args.device.now) best _ _ _ seen old _ _ l.invariant.all c.in-Some.ensures.steps
          (c.best_after-best.ensures ∙ ap (λ (step : Step). best_after step best seen) (c.step.ensures ∙ c.of-decision.ensures.step))
          (ap (map traced_of) c.in_ok-push.ensures.items ∙ map_push traced_of l.traced.items _ ∙ ap (λ (decision : Decision). old ++ told decision ∷ []) c.of-decision.ensures.value);
    }
