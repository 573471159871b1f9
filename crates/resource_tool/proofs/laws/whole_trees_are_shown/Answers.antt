use Rattle.resource_tool.proofs.WholeTreeLemmas.{whole_trees}
use Rattle.resource_tool.proofs.laws.whole_trees_are_shown.Goals as goal

pub returns : goal.returns
returns c = whole_trees
