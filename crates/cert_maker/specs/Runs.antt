-- The runs of traces, where at most one coordinate of a box has several values: along a range a run is a stretch of numbers
-- with one trace, of a choice all values with one trace.
use Rattle.std.specs.Prelude.{◌≡◌, ◌≢◌, ℕ, zero, suc, ◌+◌, ◌-◌, List, [], ◌∷◌, map, length, slice_set, if◌then◌else◌}
use Rattle.std.specs.List.{list_any}
use Rattle.cert_checker.specs.config_record.declared.coord.Coord.{Coord}
use Rattle.cert_checker.specs.config_record.Coord.{place_of}
use Rattle.cert_checker.specs.reference_resolver.Trace.{Trace}
use Rattle.cert_checker.specs.box_answers.NumberSet.{SetOf, RangeOf, NumbersOf, LocalesOf, IsIn}
use Rattle.cert_checker.specs.box_answers.Members.{set_at, IsMember}
use Rattle.cert_checker.specs.reference_resolver.SameTrace.{same_trace}

-- of so many pairs of neighbours from a number on, how many have different traces
abbrev pub changes : (ℕ → Trace) → ℕ → ℕ → ℕ
changes trace_at low zero = 0
changes trace_at low (suc n) =
    changes trace_at low n + (if same_trace (trace_at (low + n)) (trace_at (low + n + 1)) then 0 else 1)

-- how many different traces a list has
abbrev pub different : List Trace → ℕ
different [] = 0
different (t ∷ traces) = (if list_any (same_trace t) traces then 0 else 1) + different traces

-- along a range one more than changes; of a choice how many different ones
abbrev pub runs : (ℕ → Trace) → SetOf → ℕ
runs trace_at (RangeOf low high) = 1 + changes trace_at low (high - low)
runs trace_at (NumbersOf numbers) = different (map trace_at numbers)
runs trace_at (LocalesOf numbers) = different (map trace_at numbers)

-- the trace of a device with another number at one coordinate
abbrev pub trace_with : (List ℕ → Trace) → List ℕ → Coord → ℕ → Trace
trace_with trace d c n = trace (slice_set d (place_of c) n)

-- the runs along one coordinate, where the other numbers are those of a device
abbrev pub runs_along : (List ℕ → Trace) → List SetOf → Coord → List ℕ → ℕ
runs_along trace sets c d = runs (trace_with trace d c) (set_at sets c)

-- no coordinate of a box but this one has several values
abbrev pub VariesAlone : List SetOf → Coord → Type 0
VariesAlone sets c = (k : Coord) (m n : ℕ) → k ≢ c → IsIn (set_at sets k) m → IsIn (set_at sets k) n → m ≡ n

-- a member of such a box, as the list of its 25 numbers
pub record IsOnLine (sets : List SetOf) (c : Coord) (d : List ℕ) : Type 0 where
  pub count : length d ≡ 25
  pub member : IsMember sets d
  pub others : VariesAlone sets c
