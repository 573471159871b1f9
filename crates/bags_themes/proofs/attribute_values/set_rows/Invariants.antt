use Rattle.std.proofs.Common.{◌≡◌, take}
use Rattle.indexmap.specs.IndexMap.{hasher_of}
use Rattle.bags_themes.specs.Theme.{AppliesRows}
use Rattle.bags_themes.proofs.attribute_values.set_rows.Given as goal

-- the rows so far were applied
abbrev pub invariant-loop-row : goal.invariant-loop-row
invariant-loop-row l = record {
  applied : AppliesRows l.force (take l.row-index l.rows) l.fn.values.entries l.values.entries;
  hasher : hasher_of l.values ≡ hasher_of l.fn.values;
}
