-- Spans that are known to be there. Contracts within the crate alone speak of this.
use Rattle.std.specs.Prelude.{ℕ, zero, suc, List, [], ◌∷◌, drop}
use Rattle.string_pool.specs.declared.span.Span.{Span}
use Rattle.string_pool.specs.Layout.{span_size}
use Rattle.string_pool.specs.Style.{span_in}

-- so many spans from the front of what is left
unfoldable pub listed_spans : ℕ → List ℕ → List Span
listed_spans zero left = []
listed_spans (suc count) left = span_in left ∷ listed_spans count (drop span_size left)
