-- The bytes of a string of a pool (AOSP: ResStringPool::stringAt, ResStringPool::string8At).
use Rattle.std.specs.Prelude.{ℕ, ◌+◌, ◌-◌, ◌*◌, ◌^◌, not, List, length, take, drop, Result, Ok, nat_lt, ◌==◌, if◌then◌else◌}
use Rattle.contract_words.specs.Faults.{◌>>=◌, refuse}
use Rattle.chunk_walk.specs.Number.{number}
use Rattle.string_bytes.specs.declared.fault.StringFault.{StringFault}
use Rattle.string_bytes.specs.declared.fault.StringFault.TheVariants.{Cut, NotEnded}

-- a number at the front of what is left, and the bytes behind it
pub record FrontOf : Type 0 where
  pub number : ℕ
  pub behind : List ℕ

-- the number of so many bytes at the front of what is left
unfoldable pub front_in : ℕ → List ℕ → Result FrontOf StringFault
front_in size left = do
  _ ← refuse (nat_lt (length left) size) Cut
  Ok (record { number = number size left 0; behind = drop size left })

-- A length at the front of what is left. It is one unit, or two where the highest bit of the first is
-- set: then the other bits of the first are the high part and the second is the low part. A unit is one
-- byte in UTF-8 and two in UTF-16 (AOSP: decodeLength).
unfoldable pub length_in : ℕ → List ℕ → Result FrontOf StringFault
length_in unit left = do
  first ← front_in unit left
  let highest_bit = 2 ^ (8 * unit - 1)
  let long = do
    second ← front_in unit first.behind
    Ok (record { number = (first.number - highest_bit) * 2 ^ (8 * unit) + second.number; behind = second.behind })
  if nat_lt first.number highest_bit then Ok first else long

-- The bytes of so many units, where a unit of zero closes them. The closing unit is no part of them.
unfoldable pub closed_in : ℕ → FrontOf → Result (List ℕ) StringFault
closed_in unit count = do
  let size = unit * count.number
  _ ← refuse (nat_lt (length count.behind) size) Cut
  closing ← front_in unit (drop size count.behind)
  _ ← refuse (not (closing.number == 0)) NotEnded
  Ok (take size count.behind)

-- A string of UTF-8: how many units it would have in UTF-16, which is not compared with what follows,
-- then how many bytes, and the bytes.
unfoldable pub utf8_bytes_in : List ℕ → Result (List ℕ) StringFault
utf8_bytes_in left = do
  units ← length_in 1 left
  count ← length_in 1 units.behind
  closed_in 1 count

-- a string of UTF-16: how many units, and the units
unfoldable pub utf16_bytes_in : List ℕ → Result (List ℕ) StringFault
utf16_bytes_in left = do
  count ← length_in 2 left
  closed_in 2 count
