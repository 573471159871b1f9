use Rattle.std.proofs.Common.{◌≡◌, None}
use Rattle.std.specs.Option.{option_map}
use Rattle.config_precedence.specs.config_record.DeviceSeen.{device_numbers}
use Rattle.overlay_map.specs.Candidates.{cand_of, candidates_of}
use Rattle.reference_resolver.specs.Selection.{best_of}
use Rattle.reference_resolver.proofs.selection.select.Given as goal

-- from the best so far, what is left of the candidates leads to the best of all
abbrev pub invariant-loop-candidate : goal.invariant-loop-candidate
invariant-loop-candidate l = record {
  can : (goal.iterator-loop-candidate).can_next l.candidate-iterator;
  ends : (goal.iterator-loop-candidate).is_finite l.candidate-iterator;
  left : best_of (option_map cand_of l.best) l.candidate-iterator (device_numbers l.device) ≡ best_of None (candidates_of l.stack l.fn.id.0) (device_numbers l.device);
}
