use Rattle.std.proofs.Common.{append_assoc}
use Rattle.std.proofs.KnownBytes.{Appends-trans}
use Rattle.std.proofs.lemmas.Result.{on_ok_weaker}
use Rattle.answer_text.specs.NamedText.{named_number}
use Rattle.resource_text.specs.TableNotation.{bag_notation}
use Rattle.resource_text.proofs.table_row.write_bag.Goals as goal

pub returns : goal.returns
unfolding bag_notation named_number
returns g c =
    let to_parent = Appends-trans _ _ _ _ _ c.in_ok-write_all.ensures.bytes c.in_ok-write_parent.ensures in
    simp append_assoc (on_ok_weaker c.write_named_number.result (λ last. Appends-trans _ _ _ _ _ to_parent last) c.write_named_number.ensures)
