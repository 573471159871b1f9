use Rattle.std.proofs.Common.{map, take, Some}
use Rattle.stack_diff.specs.LayersSeen.{layers_of}
use Rattle.stack_diff.specs.Raising.{cells_of, IsBegun}
use Rattle.stack_diff.proofs.uses.Uses.of.Given as goal

-- the rows of the ids so far are asked for
abbrev pub invariant-loop-id : goal.invariant-loop-id
invariant-loop-id l = IsBegun (layers_of l.layers) (Some (map (λ id. id.0) (take l.id-index l.ids))) (cells_of l.uses)
