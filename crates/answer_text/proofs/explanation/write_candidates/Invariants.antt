use Rattle.std.proofs.Common.{◌+◌, ◌^◌, ◌<◌, length}
use Rattle.std.specs.List.{enumerate_from}
use Rattle.std.specs.Option.{option_map}
use Rattle.contract_words.proofs.TextSteps.{PutsAllBut}
use Rattle.bags_themes.specs.config_record.DeviceSeen.{device_numbers}
use Rattle.bags_themes.specs.overlay_map.Candidates.{cand_of}
use Rattle.bags_themes.specs.reference_resolver.Selection.{scan_candidates}
use Rattle.bags_themes.specs.reference_resolver.Trace.{traced, scan_look_up}
use Rattle.answer_text.specs.ExplainText.{candidate_line}
use Rattle.answer_text.proofs.explanation.write_candidates.Given as goal

-- the lines of all candidates were written but of those that are left, from the place on
abbrev pub invariant-loop-candidate : goal.invariant-loop-candidate
invariant-loop-candidate g l = record {
  can : (goal.iterator-loop-candidate g).can_next l.candidate-iterator;
  ends : (goal.iterator-loop-candidate g).is_finite l.candidate-iterator;
  texts : PutsAllBut candidate_line (g.W.Write.contents l.fn.out) (g.W.Write.contents l.out)
      (enumerate_from 0 (scan_look_up traced l.stack (device_numbers l.device) l.fn.id.0))
      (enumerate_from l.place (scan_candidates traced (option_map cand_of l.best) l.candidate-iterator (device_numbers l.device)));
  few : l.place + length l.candidate-iterator < 2 ^ 99;
}
