use Rattle.std.proofs.Common.{◌≡◌, ◌+◌, ◌≤◌, map, drop}
use Rattle.resource_tool.specs.Judged.{told_of}
use Rattle.resource_tool.specs.DiffLines.{same_count}
use Rattle.resource_tool.proofs.lines.same_count.Given as goal

-- with those that were counted, those that are left make all
abbrev pub invariant-loop-one : goal.invariant-loop-one
invariant-loop-one l = record {
  counted : l.count + same_count (map told_of (drop l.one-index l.told)) ≡ same_count (map told_of l.told);
  few : l.count ≤ l.one-index;
}
