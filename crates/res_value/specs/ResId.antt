-- Resource ids.
use Rattle.std.specs.Prelude.{ℕ, ◌+◌, ◌*◌, ◌/◌, ◌%◌, ◌^◌, List, drop, codes, Option, None, nat_eq, if◌then◌else◌}
use Rattle.std.specs.Int.{w32, from_be_bytes}
use Rattle.std.specs.List.{starts_with}
use Rattle.std.specs.Option.{option_map}
use Rattle.std.specs.Result.{result_ok}
use Rattle.hex.specs.Hex.{decode_sized}
use Rattle.res_value.specs.declared.res_id.ResId.{ResId}
use Rattle.res_value.specs.Word.{word_text}

-- the number of an id: bits 24 to 31 are the package, bits 16 to 23 the type, bits 0 to 15 the entry
-- (AOSP: Res_MAKEID, which counts package and type from 0)
abbrev pub id_of_parts : ℕ → ℕ → ℕ → ℕ
id_of_parts package_id type_id entry = package_id * 2 ^ 24 + type_id * 2 ^ 16 + entry

-- the parts of an id (AOSP: Res_GETPACKAGE, Res_GETTYPE, Res_GETENTRY)
abbrev pub package_of : ResId → ℕ
package_of id = id.0 / 2 ^ 24

abbrev pub type_of : ResId → ℕ
type_of id = id.0 / 2 ^ 16 % 2 ^ 8

abbrev pub entry_of : ResId → ℕ
entry_of id = id.0 % 2 ^ 16

-- how an id is shown, of its number
abbrev pub id_text : ℕ → List ℕ
id_text number = word_text number

-- the id of four bytes, the most significant first
abbrev pub id_of_bytes : List ℕ → ResId
id_of_bytes bytes = record { 0 = from_be_bytes w32 bytes }

-- The id that a text spells: `0x` and eight hexadecimal digits of either case, which are the digits
-- of four bytes.
unfoldable pub id_of : List ℕ → Option ResId
id_of text =
    if starts_with nat_eq text (codes "0x")
    then option_map id_of_bytes (result_ok (decode_sized (drop 2 text) 4))
    else None
