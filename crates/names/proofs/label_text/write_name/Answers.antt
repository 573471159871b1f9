use Rattle.names.proofs.LabelWritten.{name-written}
use Rattle.names.proofs.label_text.write_name.Goals as goal

pub returns : goal.returns
returns g c =
    name-written c.write_part-2.result _ _ _ _ _ _ _ _ _ _ _ _ c.package_before-word.ensures c.is_bare_type.ensures c.is_plain.ensures c.in_ok-write_before_type.ensures c.in_ok-write_part.ensures
    c.in_ok-write_all.ensures.bytes c.write_part-2.ensures
