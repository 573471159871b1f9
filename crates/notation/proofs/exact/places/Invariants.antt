use Rattle.std.proofs.Common.{◌≡◌, ◌-◌}
use Rattle.std.specs.Prelude.{find}
use Rattle.std.specs.List.{range_with_len}
use Rattle.notation.specs.Decimal.{is_near}
use Rattle.notation.proofs.exact.places.Given as goal

-- no fewer digits are near
abbrev pub invariant-places : goal.invariant-places
invariant-places l = find (is_near l.exact) (range_with_len l.places (18 - l.places)) ≡ find (is_near l.exact) (range_with_len 0 18)
