use Rattle.std.proofs.Common.{rules}
use Rattle.locales.proofs.ReadBack.{own_by_rule, own_back}
use Rattle.locales.proofs.text.scripted_locale.Goals as goal

pub returns-in-Some-clause-by_rule : goal.returns-in-Some-clause-by_rule
returns-in-Some-clause-by_rule c = own_by_rule c.args.text.now c.in-Some.script c.with_script.result (search rules) (search rules)

pub returns-in-Some-clause-given : goal.returns-in-Some-clause-given
returns-in-Some-clause-given c = own_back c.args.text.now c.in-Some.script c.with_script.result (search rules) (search rules) (search rules) (search rules)
