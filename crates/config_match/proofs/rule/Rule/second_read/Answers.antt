use Rattle.config_match.proofs.ReadsLemmas.{depends}
use Rattle.config_match.proofs.rule.Rule.second_read.Goals as goal

pub returns-in-Dimensions-clause-depends : goal.returns-in-Dimensions-clause-depends
returns-in-Dimensions-clause-depends c = depends c.args.self

pub returns-in_default-clause-depends : goal.returns-in_default-clause-depends
returns-in_default-clause-depends c = depends c.args.self
