-- Numbers in bytes, the least significant byte first.
use Rattle.std.specs.Prelude.{ℕ, ◌-◌, List, length, drop, Option, Some, None, nat_lt, if◌then◌else◌}
use Rattle.byteorder.specs.Endian.{little_number}

-- the number that the n bytes from place p on spell; bytes past the end count as 0
unfoldable pub number : ℕ → List ℕ → ℕ → ℕ
number n bytes p = little_number n (drop p bytes)

-- the same, or none where fewer than n bytes are left
abbrev pub number_at : ℕ → List ℕ → ℕ → Option ℕ
number_at n bytes p = if nat_lt (length bytes - p) n then None else Some (number n bytes p)
