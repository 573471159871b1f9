use Rattle.std.proofs.Common.{◌≡◌, drop}
use Rattle.std.specs.List.{list_all}
use Rattle.std.specs.Prelude.{◌==◌}
use Rattle.resource_tool.proofs.survey.types.is_zero.Given as goal

-- all of those that are left are zero where all are
abbrev pub invariant-loop-byte : goal.invariant-loop-byte
invariant-loop-byte l = list_all (λ byte. byte == 0) (drop l.byte-index l.bytes) ≡ list_all (λ byte. byte == 0) l.bytes
