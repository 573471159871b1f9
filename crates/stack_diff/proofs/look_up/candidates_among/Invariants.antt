use Rattle.std.proofs.Common.{◌≡◌, ◌++◌, map}
use Rattle.std.specs.Prelude.{filter}
use Rattle.reference_resolver.specs.overlay_map.Candidates.{cand_of, candidates_of}
use Rattle.stack_diff.specs.LayersSeen.{is_kept}
use Rattle.stack_diff.proofs.look_up.candidates_among.Given as goal

abbrev pub invariant-loop-candidate : goal.invariant-loop-candidate
invariant-loop-candidate l = record {
  can : (goal.iterator-loop-candidate).can_next l.candidate-iterator;
  ends : (goal.iterator-loop-candidate).is_finite l.candidate-iterator;
  left : map cand_of l.candidates.items ++ filter (is_kept l.among) l.candidate-iterator ≡ filter (is_kept l.among) (candidates_of l.stack l.fn.id.0);
}
