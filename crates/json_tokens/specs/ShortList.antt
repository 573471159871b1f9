-- Lists of few items.
use Rattle.std.specs.Prelude.{ℕ, ◌≤◌, List, map, take, length, Option, Some, None, if◌then◌else◌, nat_le}
use Rattle.serde_json.specs.Data.{Data}
use Rattle.json_tokens.specs.json_input.Each.{list_of}
use Rattle.json_tokens.specs.Kind.{KindOf, kind_of, kind_seen}
use Rattle.json_tokens.specs.declared.kind.Kind.{Kind}
use Rattle.json_tokens.specs.declared.short_list.ShortList.{ShortList}
use Rattle.json_tokens.specs.declared.short_list.ShortList.TheVariants as found

pub data ListOf : Type 0 where
  NoList : ListOf
  -- the kinds of all its items
  Fits : List KindOf → ListOf
  -- a list with more items
  Longer : ListOf

abbrev pub short_list_of : ℕ → Option (List Data) → ListOf
short_list_of most None = NoList
short_list_of most (Some items) = if nat_le (length items) most then Fits (map kind_of items) else Longer

-- the kinds of the items of a list of at most so many
abbrev pub short_list : ℕ → Data → ListOf
short_list most value = short_list_of most (list_of value)

-- what was found, where the kinds of the items stand in front
abbrev pub short_list_seen : List Kind → ShortList → ListOf
short_list_seen kinds found.NoList = NoList
short_list_seen kinds (found.Fits count) = Fits (map kind_seen (take count kinds))
short_list_seen kinds found.Longer = Longer

-- no more items than there is room for
abbrev pub HasRoom : ℕ → ShortList → Type 0
HasRoom room (found.Fits count) = count ≤ room
HasRoom room _ = Unit {0}

abbrev pub HasRoomIf : ℕ → Option ShortList → Type 0
HasRoomIf room (Some list) = HasRoom room list
HasRoomIf room None = Unit {0}
