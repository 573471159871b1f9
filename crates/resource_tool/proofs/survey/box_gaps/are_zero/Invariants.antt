use Rattle.std.proofs.Common.{◌≡◌, drop}
use Rattle.std.specs.List.{list_all}
use Rattle.std.specs.Prelude.{◌==◌}
use Rattle.resource_tool.proofs.survey.box_gaps.are_zero.Given as goal

-- all of those that are left are zero where all are
abbrev pub invariant-loop-number : goal.invariant-loop-number
invariant-loop-number l = list_all (λ number. number == 0) (drop l.number-index l.numbers) ≡ list_all (λ number. number == 0) l.numbers
