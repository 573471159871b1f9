use Rattle.std.proofs.Common.{◌≡◌, false, arith, append_assoc}
use Rattle.std.specs.Prelude.{◌==◌, codes}
use Rattle.std.specs.Fmt.{decimal}
use Rattle.std.proofs.lemmas.Bool.Decides.{nat_tests}
use Rattle.config_record.specs.Coord.{name_of}
use Rattle.notation.specs.JsonText.{number_member}
use Rattle.notation.proofs.WrittenSteps.{one_written}
use Rattle.notation.proofs.json_text.write_number.Goals as goal

pub returns : goal.returns
unfolding number_member
returns g c =
    let some : (c.args.number == 0) ≡ false = grind (arith, nat_tests) in
    let text = rw c.name-name.ensures at c.write.ensures.bytes in
    rw (some, c.in_ok-write_separator.ensures.due, append_assoc (name_of c.args.coord) (codes "\":") (decimal c.args.number))
    (one_written 44 c.args.due.now _ _ _ c.write.result _ c.in_ok-write_separator.ensures.text text)
