use Rattle.config_record.proofs.SeparatorSteps.{Continues-trans}
use Rattle.notation.proofs.locale_parts.write_named.Goals as goal

pub returns : goal.returns
returns g c = Continues-trans _ _ _ _ _ _ _ _ (Continues-trans _ _ _ _ _ _ _ _ c.in_ok-write_named_locale.ensures c.in_ok-write_named_bytes.ensures) c.in_ok-write_named_bytes-2.ensures
