-- Files of words. A word `@PATH` where several may stand names a file that has such words, one a line. `@` alone, `@` with ids
-- behind it, and `@` with a name behind it as XML has it name none.
use Rattle.std.specs.Prelude.{ℕ, ◌==◌, ◌||◌, Bool, false, not, List, [], ◌∷◌, map, length, drop, nat_eq, Option, Some, None, is_some, if◌then◌else◌}
use Rattle.std.specs.List.{filter, slice_split, starts_with}
use Rattle.std.specs.Option.{option_and_then}
use Rattle.std.specs.Str.{trim}
use Rattle.res_value.specs.Goal.{is_id_list}
use Rattle.names.specs.Named.{behind_sign, xml_name_in}

-- a path is neither empty, nor a list of ids, nor a name
abbrev pub as_path : List ℕ → Option (List ℕ)
as_path text = if length text == 0 || is_id_list text || is_some (xml_name_in text) then None else Some text

-- the path of the file that a word names, behind its `@`
unfoldable pub file_path_in : List ℕ → Option (List ℕ)
file_path_in word = option_and_then as_path (behind_sign word)

-- the byte order mark, U+FEFF, as UTF-8 has it
abbrev pub byte_order_mark : List ℕ
byte_order_mark = 239 ∷ 187 ∷ 191 ∷ []

-- a text without the byte order mark that it may begin with
unfoldable pub without_mark : List ℕ → List ℕ
without_mark text = if starts_with nat_eq text byte_order_mark then drop (length byte_order_mark) text else text

abbrev pub is_line_feed : ℕ → Bool
is_line_feed byte = byte == 10

-- a line that is neither blank nor begins with `#`
abbrev pub is_word : List ℕ → Bool
is_word [] = false
is_word (byte ∷ others) = not (byte == 35)

-- the words of a text: its lines without the white space around them, but for those that are passed over
unfoldable pub words_in_text : List ℕ → List (List ℕ)
words_in_text text = filter is_word (map trim (slice_split is_line_feed (without_mark text)))
