use Rattle.std.proofs.Common.{append_assoc}
use Rattle.resource_tool.specs.UnusedOutput.{totals_line}
use Rattle.resource_tool.proofs.unused_rows.Totals.write.Goals as goal

pub returns-in-Text : goal.returns-in-Text
unfolding totals_line
returns-in-Text g c = rw c.in-Text.is (simp append_assoc c.writeln.ensures.bytes)

pub returns-in-Json : goal.returns-in-Json
unfolding totals_line
returns-in-Json g c = rw c.in-Json.is (simp append_assoc c.writeln-in-Json.ensures.bytes)
