-- Lines of JSON: each is an object, and ends with a line feed.
use Rattle.std.specs.Prelude.{ℕ, List, [], ◌∷◌, ◌++◌, codes}
use Rattle.std.specs.Fmt.{decimal}
use Rattle.serde_json.specs.Data.{object, string, Members, no_members, put as with_member}
use Rattle.serde_json.specs.Written.{compact_text}

-- what kind of line it is
abbrev pub line_members : List ℕ → Members
line_members kind = with_member (codes "line") (string kind) no_members

abbrev pub line_json : Members → List ℕ
line_json members = compact_text (object members) ++ 10 ∷ []

-- how many rows are set aside
unfoldable pub set_aside_json : ℕ → List ℕ
set_aside_json count = codes "{\"count\":" ++ decimal count ++ codes ",\"line\":\"set-aside\"}" ++ 10 ∷ []
