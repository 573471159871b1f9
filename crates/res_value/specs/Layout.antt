-- How many bytes a value and a row of a bag have (AOSP: Res_value, ResTable_map).
use Rattle.std.specs.Prelude.{ℕ}

abbrev pub value_size : ℕ
value_size = 8

-- a row is its name, and behind it its value
abbrev pub row_size : ℕ
row_size = 12

abbrev pub row_name_size : ℕ
row_name_size = 4
