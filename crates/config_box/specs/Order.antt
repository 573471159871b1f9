-- The order in which boxes that are alike but at one coordinate stand side by side.
use Rattle.std.specs.Prelude.{ℕ, ◌+◌, List, take, drop}
use Rattle.std.specs.declared.cmp.Ordering.{Ordering}
use Rattle.std.specs.Ordering.{ordering_then, nat_cmp}
use Rattle.std.specs.Cmp.Lexicographic.{slice_cmp}
use Rattle.box_answers.specs.config_record.declared.coord.Coord.{Coord}
use Rattle.box_answers.specs.config_record.Coord.{place_of}
use Rattle.box_answers.specs.NumberSet.{SetOf, RangeOf, NumbersOf, LocalesOf, named_numbers}
use Rattle.box_answers.specs.Members.{set_at}

abbrev pub kind_place : SetOf → ℕ
kind_place (RangeOf low high) = 0
kind_place (NumbersOf numbers) = 1
kind_place (LocalesOf locales) = 2

-- ranges before choices; of one kind, by the first number that differs
abbrev pub set_order : SetOf → SetOf → Ordering
set_order a b = ordering_then (nat_cmp (kind_place a) (kind_place b)) (slice_cmp nat_cmp (named_numbers a) (named_numbers b))

-- by the first set before a coordinate that differs, then by the first behind it, then by that of the coordinate
abbrev pub order_but : Coord → List SetOf → List SetOf → Ordering
order_but c a b =
    ordering_then (slice_cmp set_order (take (place_of c) a) (take (place_of c) b))
    (ordering_then (slice_cmp set_order (drop (place_of c + 1) a) (drop (place_of c + 1) b)) (set_order (set_at a c) (set_at b c)))
