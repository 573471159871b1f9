use Rattle.json_input.proofs.ValueLemmas.{value_of-refused}
use Rattle.json_tokens.proofs.tokens.Tokens.of.Goals as goal

pub returns-in_default : goal.returns-in_default
returns-in_default c refused = value_of-refused c.args.bytes.now (λ text. absurd (c.in_default.ensures.cases.0 text))
