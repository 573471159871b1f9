use Rattle.std.proofs.Common.{◌∙◌}
use Rattle.locales.specs.Facts.{is_representative_of}
use Rattle.locales.proofs.ListsAgree.{IsRising-REPRESENTATIVES, AllFit-REPRESENTATIVES, has_line-REPRESENTATIVES}
use Rattle.locales.proofs.facts.is_representative.Goals as goal

pub has_line-requires-clause-rising : goal.has_line-requires-clause-rising
has_line-requires-clause-rising c = IsRising-REPRESENTATIVES

pub has_line-requires-clause-fit : goal.has_line-requires-clause-fit
has_line-requires-clause-fit c = AllFit-REPRESENTATIVES

pub returns : goal.returns
unfolding is_representative_of
returns c = c.has_line.ensures ∙ has_line-REPRESENTATIVES _ _
