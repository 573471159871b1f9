use Rattle.std.proofs.Common.{refl}
use Rattle.resource_tool.proofs.LineSteps.{MissingAllBut-next}
use Rattle.resource_tool.proofs.show.tree_lines.push_missing.Goals as goal

pub paths-preserved : goal.paths-preserved
paths-preserved c = MissingAllBut-next _ _ _ _ _ _ c.in-Some.path _ c.paths.invariant c.in-Some.ensures c.in_ok-push.ensures.items refl
