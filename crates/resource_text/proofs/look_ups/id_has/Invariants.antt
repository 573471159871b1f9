use Rattle.std.proofs.Common.{◌≡◌}
use Rattle.std.specs.List.{list_any}
use Rattle.answer_text.specs.overlay_map.Candidates.{CandOf}
use Rattle.resource_text.specs.GoalLookUps.{has_qualifier, id_has}
use Rattle.resource_text.proofs.look_ups.id_has.Given as goal

-- those that are left decide
abbrev pub invariant-loop-candidate : goal.invariant-loop-candidate
invariant-loop-candidate l = record {
  can : (goal.iterator-loop-candidate).can_next l.candidate-iterator;
  ends : (goal.iterator-loop-candidate).is_finite l.candidate-iterator;
  left : list_any (λ (candidate : CandOf). has_qualifier candidate.row.config l.coord) l.candidate-iterator ≡ id_has l.stack l.coord l.fn.id.0;
}
