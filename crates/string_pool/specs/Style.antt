-- The styles of a pool: spans of its strings (AOSP: ResStringPool_span, ResStringPool::styleAt).
use Rattle.std.specs.Prelude.{ℕ, zero, suc, ◌+◌, ◌*◌, not, List, [], ◌∷◌, length, drop, Result, Ok, Err, nat_lt, ◌==◌, if◌then◌else◌}
use Rattle.contract_words.specs.Faults.{◌>>=◌, refuse}
use Rattle.contract_words.specs.Sequences.{with_front}
use Rattle.chunk_walk.specs.Number.{number}
use Rattle.string_bytes.specs.declared.fault.StringFault.{StringFault}
use Rattle.string_bytes.specs.declared.fault.StringFault.TheVariants.{NoSuch, Cut}
use Rattle.string_pool.specs.declared.span.Span.{Span}
use Rattle.string_pool.specs.Layout.{offset_size, span_size, span_name_size, end_of_spans}
use Rattle.string_pool.specs.Pool.{PoolOf}

-- a span: the index of its name among the strings, and its first and last characters
abbrev pub span_in : List ℕ → Span
span_in left = record { name = number 4 left 0; first = number 4 left 4; last = number 4 left 8 }

-- At most `most` spans from the front of what is left. A name of ff ff ff ff ends them by itself; what
-- follows it is not looked at (AOSP: ResStringPool_span::END).
unfoldable pub at_most_spans : ℕ → List ℕ → Result (List Span) StringFault
at_most_spans zero left = Err Cut
at_most_spans (suc most) left = do
  _ ← refuse (nat_lt (length left) span_name_size) Cut
  let more = do
    _ ← refuse (nat_lt (length left) span_size) Cut
    with_front (span_in left ∷ []) (at_most_spans most (drop span_size left))
  if number 4 left 0 == end_of_spans then Ok [] else more

-- the spans from the front of what is left: each has twelve bytes, so there are no more than bytes
unfoldable pub spans_in : List ℕ → Result (List Span) StringFault
spans_in left = at_most_spans (length left) left

-- The style of an index, whose offset stands behind those of the strings and counts from where the
-- styles start.
unfoldable pub style_in : PoolOf → ℕ → Result (List Span) StringFault
style_in pool index = do
  _ ← refuse (not (nat_lt index pool.style_count)) NoSuch
  spans_in (drop (number 4 pool.offsets (offset_size * (pool.string_count + index))) pool.styles)
