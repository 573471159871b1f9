use Rattle.std.proofs.Common.{refl}
use Rattle.config_match.specs.config_record.Coord.{place_of}
use Rattle.config_match.specs.Rule.{beside}
use Rattle.config_precedence.specs.Rules.{all_rules}
use Rattle.config_precedence.proofs.table.rules.Goals as goal

-- computed on the literal table
pub returns-clause-in_order : goal.returns-clause-in_order
unfolding all_rules place_of beside
returns-clause-in_order c = refl
