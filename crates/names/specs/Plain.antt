-- Names that are read as they stand.
use Rattle.std.specs.Prelude.{ℕ, ◌==◌, ◌&&◌, ◌||◌, not, Bool, List, nat_lt}
use Rattle.std.specs.List.{list_any}
use Rattle.bstr.specs.Utf8.{lossy_chars}
use Rattle.string_pool.specs.Shown.{takes_backslash, is_control}
use Rattle.names.specs.Named.{is_part}

abbrev pub is_from_to : ℕ → ℕ → ℕ → Bool
is_from_to least greatest c = not (nat_lt c least) && not (nat_lt greatest c)

-- a character that ends a line or turns its direction: U+0085, U+2028, U+2029, U+202A to U+202E, U+2066 to U+2069
unfoldable pub breaks_line : ℕ → Bool
breaks_line c = c == 0x85 || is_from_to 0x2028 0x202e c || is_from_to 0x2066 0x2069 c

-- a byte of a name by which it, or the line that it stands in, could be read otherwise: a space, `"`, `\` or a control character
unfoldable pub is_misread : ℕ → Bool
is_misread byte = byte == 0x20 || takes_backslash byte || is_control byte

-- a part of a word, in UTF-8, that has none of these
abbrev pub is_plain : List ℕ → Bool
is_plain name = is_part name && not (list_any is_misread name) && not (list_any breaks_line (lossy_chars name))
