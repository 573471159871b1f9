use Rattle.std.proofs.lemmas.Result.{on_ok_weaker}
use Rattle.config_record.proofs.SeparatorSteps.{Continues-joined}
use Rattle.notation.specs.LineParts.{line_order, line_text}
use Rattle.notation.proofs.line_parts.write_line.Goals as goal

pub returns : goal.returns
unfolding line_order line_text
returns g c = on_ok_weaker c.write_line_parts.result (λ parts. Continues-joined _ _ _ _ _ parts) c.write_line_parts.ensures
