-- The trace of what an id says: what each candidate does of the look-ups of the id and of its references, and where these
-- end; then, where that is a bag, of those of its parents.
use Rattle.std.specs.Prelude.{ℕ, List, [], ◌++◌}
use Rattle.reference_resolver.specs.overlay_map.Layer.{LayerOf}
use Rattle.reference_resolver.specs.declared.end.End.{End}
use Rattle.reference_resolver.specs.declared.end.End.TheVariants as of_end
use Rattle.reference_resolver.specs.Selection.{selected}
use Rattle.reference_resolver.specs.Ends.{references_followed}
use Rattle.reference_resolver.specs.Trace.{Trace, trace_of}
use Rattle.bags_themes.specs.Bag.{bag_in}
use Rattle.bags_themes.specs.BagIds.{most_bags, ids_after}
use Rattle.bags_themes.specs.AttributeTrace.{steps_of_ids}

-- the ids that are looked up behind an end: those of the parents of a bag
abbrev pub ids_behind : List LayerOf → End → List ℕ → List ℕ
ids_behind stack (of_end.Value layer value) d = []
ids_behind stack (of_end.Bag id) d = ids_after stack most_bags (bag_in (selected stack id.0 d)) d
ids_behind stack (of_end.Absent id) d = []
ids_behind stack (of_end.TooLong id) d = []

abbrev pub with_steps_behind : List LayerOf → Trace → List ℕ → Trace
with_steps_behind stack t d = record { steps = t.steps ++ steps_of_ids stack d (ids_behind stack t.end d); end = t.end }

-- where at most so many references are followed
abbrev pub content_trace_within : List LayerOf → ℕ → ℕ → List ℕ → Trace
content_trace_within stack most id d = with_steps_behind stack (trace_of stack most id d) d

unfoldable pub content_trace : List LayerOf → ℕ → List ℕ → Trace
content_trace stack id d = content_trace_within stack references_followed id d
