use Rattle.std.proofs.Common.{◌≡◌, drop}
use Rattle.std.specs.List.{fold}
use Rattle.resource_text.specs.AttrNotation.{set_after, set_after_rows}
use Rattle.resource_text.proofs.attribute.set_after_rows.Given as goal

-- what is set after the rows that are left is what is set after all
abbrev pub invariant-loop-row : goal.invariant-loop-row
invariant-loop-row l = fold (set_after l.force l.attr.0) l.set (drop l.row-index l.rows) ≡ set_after_rows l.force l.attr.0 l.fn.before l.rows
