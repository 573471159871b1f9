use Rattle.std.proofs.Common.{◌≡◌, ◌++◌, length}
use Rattle.std.specs.Slice.Iter.{iter_rest}
use Rattle.overlay_map.specs.Candidates.{candidates_from}
use Rattle.overlay_map.proofs.candidates.CandsIterator.next.Given as goal

-- only layers without candidates were passed over
abbrev pub invariant-layers : goal.invariant-layers
invariant-layers l = l.self-inside.left ++ candidates_from l.self-inside.index (iter_rest l.self-inside.layers) l.self-inside.id.0 ≡ l.fn.self

abbrev pub decreases-layers : goal.decreases-layers
decreases-layers l = length (iter_rest l.self-inside.layers)
