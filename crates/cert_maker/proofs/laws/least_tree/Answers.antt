use Rattle.cert_maker.proofs.OneMember.{has-member}
use Rattle.cert_maker.proofs.LeastTree.{small, large, least}
use Rattle.cert_maker.proofs.laws.least_tree.Goals as goal

pub returns-clause-needed : goal.returns-clause-needed
returns-clause-needed c = small

pub returns-clause-accepted : goal.returns-clause-accepted
returns-clause-accepted c = large

pub returns-clause-least : goal.returns-clause-least
returns-clause-least c = least

pub returns-clause-member : goal.returns-clause-member
returns-clause-member c = has-member
