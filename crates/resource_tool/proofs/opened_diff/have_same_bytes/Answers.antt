use Rattle.std.proofs.Common.{◌∙◌}
use Rattle.resource_tool.proofs.SameBytes.{same-seen}
use Rattle.resource_tool.proofs.opened_diff.have_same_bytes.Goals as goal

pub returns : goal.returns
returns c = c.eq.ensures ∙ same-seen c.args.old.now c.args.new.now
