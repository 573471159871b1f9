use Rattle.std.proofs.lemmas.Result.{on_ok_weaker}
use Rattle.notation.specs.LineParts.{line_order}
use Rattle.notation.specs.ConfigText.{config_parts, config_text}
use Rattle.notation.proofs.PartsWritten.{some_written, none_written}
use Rattle.notation.proofs.config_text.write_text.Goals as goal

pub returns-then-due : goal.returns-then-due
unfolding config_text config_parts line_order
returns-then-due g c = some_written _ _ _ (rw c.if-due.true at c.in_ok-write_each.ensures)

pub returns : goal.returns
unfolding config_text config_parts line_order
returns g c = on_ok_weaker c.write_all.result (λ default. none_written _ _ _ _ (rw c.if-due.false at c.in_ok-write_each.ensures) default) c.write_all.ensures.bytes
