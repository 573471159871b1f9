-- Values as they stand in a table (AOSP: Res_value).
use Rattle.std.specs.Prelude.{ℕ, Bool, List, length, slice_index, Option, Some, None, nat_lt, ◌==◌, if◌then◌else◌}
use Rattle.chunk_walk.specs.Number.{number}
use Rattle.res_value.specs.Layout.{value_size}
use Rattle.res_value.specs.declared.value.Value.{Value}

-- the size field, which is in front, says how many bytes a value has
abbrev pub has_value_size : List ℕ → Bool
has_value_size bytes = number 2 bytes 0 == value_size

-- the kind and the word; the byte at 2 says nothing
abbrev pub value_at : List ℕ → Value
value_at bytes = record { kind = slice_index bytes 3; word = number 4 bytes 4 }

-- the value that the bytes begin with, if its bytes are there and the size field says so
abbrev pub value_in : List ℕ → Option Value
value_in bytes =
    if nat_lt (length bytes) value_size then None
    else if has_value_size bytes then Some (value_at bytes)
    else None
