-- The parts of a locale that is seen as the number of its eight bytes, language first, script last.
use Rattle.std.specs.Prelude.{ℕ, ◌/◌, ◌%◌, ◌^◌, ◌==◌, Bool}

abbrev pub language : ℕ → ℕ
language l = l / 2 ^ 32 / 65536

abbrev pub region : ℕ → ℕ
region l = l / 2 ^ 32 % 65536

-- of a device
abbrev pub script : ℕ → ℕ
script l = l % 2 ^ 32

-- it has neither a language nor a region
abbrev pub says_nothing : ℕ → Bool
says_nothing l = l / 2 ^ 32 == 0

-- a device is compared so where nothing is said of its script; else as a phone compares it
abbrev pub is_by_language_and_region : ℕ → Bool
is_by_language_and_region d = script d == 0
