-- Names and strings between quotes.
use Rattle.std.specs.Prelude.{ℕ, List, ◌++◌, codes, if◌then◌else◌}
use Rattle.std.specs.List.{flat_map}
use Rattle.bstr.specs.Utf8.{lossy_chars}
use Rattle.string_pool.specs.Shown.{character_text, unit_escape}
use Rattle.names.specs.Plain.{breaks_line}

-- as strings are shown, but a character that ends a line or turns its direction is `\u` and four digits
unfoldable pub quoted_character : ℕ → List ℕ
quoted_character c = if breaks_line c then unit_escape c else character_text c

-- a text of UTF-8
unfoldable pub quoted_text : List ℕ → List ℕ
quoted_text text = codes "\"" ++ flat_map quoted_character (lossy_chars text) ++ codes "\""
