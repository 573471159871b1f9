use Rattle.std.proofs.Common.{◌≡◌, ℕ, ◌<◌, ◌/◌, ◌%◌, false, arith}
use Rattle.std.specs.Fmt.{digit_glyph}
use Rattle.std.specs.Prelude.{slice_index}
use Rattle.std.proofs.lemmas.Fmt.{hex_byte}
use Rattle.hex.specs.Hex.{lower_digits, encode_with}
use Rattle.names.proofs.package_word.PackageWordDisplay.fmt.Goals as goal

glyph : (d : ℕ) → d < 16 → digit_glyph false d ≡ slice_index lower_digits d
glyph d small = grind arith

-- a byte in hexadecimal digits
pub returns-in-Number-clause-writes : goal.returns-in-Number-clause-writes
unfolding encode_with
returns-in-Number-clause-writes g c =
    let n = c.in-Number.number in
    let h = rw (c.laid_out.ensures, c.in_radix.ensures, hex_byte false n (omega arith), glyph (n / 16) (omega arith), glyph (n % 16) (omega arith)) at c.write.ensures.writes in
    rw c.in-Number.is h
