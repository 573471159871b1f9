use Rattle.std.proofs.Common.{◌∙◌}
use Rattle.locales.proofs.ListsAgree.{IsRising-PARENTS, AllFit-PARENTS, parent_in-PARENTS}
use Rattle.locales.proofs.facts.listed_parent.Goals as goal

pub parent_in-requires-clause-rising : goal.parent_in-requires-clause-rising
parent_in-requires-clause-rising c = IsRising-PARENTS

pub parent_in-requires-clause-fit : goal.parent_in-requires-clause-fit
parent_in-requires-clause-fit c = AllFit-PARENTS

pub returns : goal.returns
returns c = c.parent_in.ensures ∙ parent_in-PARENTS _ _
