use Rattle.std.proofs.Common.{sym, ◌∙◌, ap}
use Rattle.std.specs.Option.{option_map}
use Rattle.config_precedence.specs.config_record.DeviceSeen.{device_numbers}
use Rattle.overlay_map.specs.Candidates.{cand_of}
use Rattle.reference_resolver.specs.Decision.{decision_by, step_by}
use Rattle.reference_resolver.proofs.Traces.{step_told}
use Rattle.reference_resolver.proofs.decision.Decision.of.Goals as goal

pub returns-in-None-clause-step : goal.returns-in-None-clause-step
returns-in-None-clause-step c =
    let best = option_map cand_of c.args.best.now in
    let candidate = cand_of c.args.candidate.now in
    let d = device_numbers c.args.device.now in
    let matches = sym c.mismatch.ensures.value ∙ c.in-None.is in
    ap step_by (c.decision_of_match.ensures ∙ sym (ap (λ mismatch. decision_by mismatch best candidate d) matches)) ∙ step_told best candidate d
