use Rattle.config_precedence.specs.config_record.DeviceSeen.{device_numbers}
use Rattle.overlay_map.specs.Candidates.{cand_of}
use Rattle.reference_resolver.proofs.BeatsSteps.{beats_better, beats_base, beats_overlay}
use Rattle.reference_resolver.proofs.step.beats.Goals as goal

pub returns-then-better : goal.returns-then-better
returns-then-better c =
    beats_better (cand_of c.args.candidate.now) (cand_of c.args.best.now) (device_numbers c.args.device.now) c.better.result c.if-better.true c.better.ensures.value

pub returns-else-candidate : goal.returns-else-candidate
returns-else-candidate c =
    beats_base (cand_of c.args.candidate.now) (cand_of c.args.best.now) (device_numbers c.args.device.now) c.better.result c.if-better.false c.better.ensures.value c.if-candidate.false

pub returns-then-candidate : goal.returns-then-candidate
returns-then-candidate c =
    beats_overlay (cand_of c.args.candidate.now) (cand_of c.args.best.now) (device_numbers c.args.device.now) c.better.result c.same.result c.if-better.false c.better.ensures.value
    c.if-candidate.true c.same.ensures
