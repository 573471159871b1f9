use Rattle.std.proofs.KnownBytes.{Appends-trans}
use Rattle.notation.proofs.WrittenSteps.{written_on}
use Rattle.res_value.specs.Word.{eight_digits}
use Rattle.notation.proofs.exact_text.write_unknown.Goals as goal

pub returns : goal.returns
unfolding eight_digits
returns g c =
    let kind = Appends-trans _ _ _ _ _ c.in_ok-write_all.ensures.bytes c.in_ok-write_hex.ensures in
    let between = Appends-trans _ _ _ _ _ kind c.in_ok-write_all-2.ensures.bytes in
    let word = written_on _ _ _ c.write_all-3.result _ _ between c.write_all-3.ensures.bytes in
    rw c.word_digits.ensures at word
