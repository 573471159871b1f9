use Rattle.std.proofs.Common.{◌≡◌, map, take}
use Rattle.stack_diff.specs.names.Pairs.{pair_of}
use Rattle.resource_tool.specs.JsonLines.{name_json}
use Rattle.resource_tool.proofs.json_lines.names_json.Given as goal

-- those of the pairs so far
abbrev pub invariant-loop-pair : goal.invariant-loop-pair
invariant-loop-pair l = map (λ name. name.items) l.names.items ≡ map (λ pair. name_json l.packages (pair_of pair)) (take l.pair-index l.pairs)
