use Rattle.std.proofs.Common.{◌≡◌, map, take, string_bytes}
use Rattle.command_base.specs.ListWordSeen.{listed_of}
use Rattle.command_base.proofs.layer_files.listed_paths.Given as goal

-- the paths of the layers so far
abbrev pub invariant-loop-layer : goal.invariant-loop-layer
invariant-loop-layer l = map string_bytes l.paths.items ≡ map (λ layer. layer.path) (map listed_of (take l.layer-index l.layers))
