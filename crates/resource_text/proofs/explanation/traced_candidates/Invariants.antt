use Rattle.std.proofs.Common.{◌≡◌, ◌++◌, map}
use Rattle.std.specs.Option.{option_map}
use Rattle.reference_resolver.specs.config_precedence.config_record.DeviceSeen.{device_numbers}
use Rattle.answer_text.specs.overlay_map.Candidates.{cand_of}
use Rattle.reference_resolver.specs.Selection.{scan_candidates}
use Rattle.reference_resolver.specs.Trace.{traced, scan_look_up}
use Rattle.resource_text.specs.TracedSeen.{traced_of}
use Rattle.resource_text.proofs.explanation.traced_candidates.Given as goal

-- those so far, and what is left from the best on, are all
abbrev pub invariant-loop-candidate : goal.invariant-loop-candidate
invariant-loop-candidate l = record {
  can : (goal.iterator-loop-candidate).can_next l.candidate-iterator;
  ends : (goal.iterator-loop-candidate).is_finite l.candidate-iterator;
  all : map traced_of l.traced.items ++ scan_candidates traced (option_map cand_of l.best) l.candidate-iterator (device_numbers l.device)
      ≡ scan_look_up traced l.stack (device_numbers l.device) l.fn.id.0;
}
