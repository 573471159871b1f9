-- Texts on lines: in them no name and no string can end the line that it stands in, or turn its direction.
use Rattle.std.specs.Prelude.{ℕ, List, encode_utf8, if◌then◌else◌}
use Rattle.std.specs.List.{flat_map}
use Rattle.bstr.specs.Utf8.{lossy_chars}
use Rattle.bags_themes.specs.string_pool.Shown.{unit_escape}
use Rattle.names.specs.Plain.{breaks_line}

-- how a character stands on a line
unfoldable pub character_on_line : ℕ → List ℕ
character_on_line c = if breaks_line c then unit_escape c else encode_utf8 c

-- a text of UTF-8, in which each such character is `\u` and four digits
unfoldable pub on_line : List ℕ → List ℕ
on_line text = flat_map character_on_line (lossy_chars text)
