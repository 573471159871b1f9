-- What is lent from bytes.
use Rattle.std.specs.Prelude.{◌≡◌, List, ◌++◌, ℕ}

-- A part is a range of bytes: these are some bytes before it, the part, and some bytes behind it.
pub record IsRangeOf (bytes part : List ℕ) : Type 0 where
  pub before : List ℕ
  pub behind : List ℕ
  pub same : bytes ≡ before ++ part ++ behind
