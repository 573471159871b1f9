use Rattle.std.proofs.Common.{◌≡◌, map, take, string_bytes}
use Rattle.command_base.specs.LayerListSeen.{paths_of}
use Rattle.command_base.proofs.layer_files.table_paths.Given as goal

-- the paths of the tables so far
abbrev pub invariant-loop-table : goal.invariant-loop-table
invariant-loop-table l = map string_bytes l.paths.items ≡ map (λ layer. layer.table) (map paths_of (take l.table-index l.layers))
