use Rattle.std.proofs.Common.{◌≡◌, map, take}
use Rattle.resource_text.specs.ColumnsSeen.{line_of}
use Rattle.resource_text.specs.AttrNotation.{style_line}
use Rattle.resource_text.proofs.attribute.style_lines.Given as goal

-- the lines of the steps so far
abbrev pub invariant-loop-step : goal.invariant-loop-step
invariant-loop-step l = map line_of l.lines.items ≡ map (style_line l.naming) (take l.step-index l.steps)
