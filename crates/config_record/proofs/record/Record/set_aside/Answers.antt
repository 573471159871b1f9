use Rattle.std.proofs.Common.{rules}
use Rattle.config_record.specs.Record.{record_bytes, is_set_aside}
use Rattle.config_record.proofs.SetAside.{compared}
use Rattle.config_record.proofs.record.Record.set_aside.Goals as goal

pub returns-then-not-is_zero-clause-compared : goal.returns-then-not-is_zero-clause-compared
unfolding is_set_aside
returns-then-not-is_zero-clause-compared c = compared (record_bytes c.args.self.now) c.script.result _ c.script.ensures (search rules) (search rules) (search rules)

pub returns-else-not-is_zero-clause-compared : goal.returns-else-not-is_zero-clause-compared
unfolding is_set_aside
returns-else-not-is_zero-clause-compared c = compared (record_bytes c.args.self.now) c.script.result _ c.script.ensures (search rules) (search rules) (search rules)
