use Rattle.std.proofs.Common.{◌≡◌, ◌-◌}
use Rattle.std.specs.Prelude.{find}
use Rattle.std.specs.List.{range_with_len}
use Rattle.res_value.specs.MapRows.{has_wrong_size}
use Rattle.res_value.proofs.map_rows.MapRows.first_wrong_size.Given as goal

-- of the rows so far none is odd
abbrev pub invariant-loop-index : goal.invariant-loop-index
invariant-loop-index l = find (has_wrong_size l.bytes) (range_with_len l.index (l.count - l.index)) ≡ find (has_wrong_size l.bytes) (range_with_len 0 l.count)
