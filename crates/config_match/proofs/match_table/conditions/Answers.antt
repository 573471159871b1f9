use Rattle.std.proofs.Common.{refl}
use Rattle.config_match.specs.config_record.Coord.{place_of}
use Rattle.config_match.specs.Rule.{beside}
use Rattle.config_match.specs.Conditions.{all_conditions}
use Rattle.config_match.proofs.match_table.conditions.Goals as goal

-- computed on the literal table
pub returns-clause-in_order : goal.returns-clause-in_order
unfolding all_conditions place_of beside
returns-clause-in_order c = refl
