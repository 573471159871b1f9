use Rattle.config_match.proofs.AnswerSteps.{keys_exposed, keys_other}
use Rattle.config_match.proofs.condition.keys_suit.Goals as goal

pub returns-then-stored-eq-EXPOSED_KEYS : goal.returns-then-stored-eq-EXPOSED_KEYS
returns-then-stored-eq-EXPOSED_KEYS c = keys_exposed c.args.stored c.args.device c.if-is_equal.ensures c.if-stored-eq-EXPOSED_KEYS.true

pub returns-else-stored-eq-EXPOSED_KEYS : goal.returns-else-stored-eq-EXPOSED_KEYS
returns-else-stored-eq-EXPOSED_KEYS c = keys_other c.args.stored c.args.device c.if-is_equal.ensures c.if-stored-eq-EXPOSED_KEYS.false
