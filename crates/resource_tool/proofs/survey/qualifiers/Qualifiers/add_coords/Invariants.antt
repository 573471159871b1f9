use Rattle.std.proofs.Common.{◌≡◌, drop}
use Rattle.std.specs.List.{flat_map}
use Rattle.command_base.specs.overlay_map.type_chunks.Row.{row_of}
use Rattle.resource_tool.specs.Counting.{counted, said_at}
use Rattle.resource_tool.proofs.survey.qualifiers.Qualifiers.add_coords.Given as goal

-- with what is said of the coordinates that are left it comes to what is said of all
abbrev pub invariant-loop-coord : goal.invariant-loop-coord
invariant-loop-coord l = counted l.self (flat_map (said_at (row_of l.row)) (drop l.coord-index l.coords)) ≡ counted l.fn.self (flat_map (said_at (row_of l.row)) l.coords)
