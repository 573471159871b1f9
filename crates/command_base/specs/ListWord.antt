-- Words that are lists of layers themselves: paths with `,` before each base behind the first, and `+` before each overlay.
use Rattle.std.specs.Prelude.{ℕ, ◌-◌, ◌==◌, ◌||◌, Bool, List, [], ◌∷◌, ◌++◌, codes, map, length, drop, Option, Some, None}
use Rattle.std.specs.List.{slice_split}
use Rattle.std.specs.Str.{str_eq_ignore_ascii_case}
use Rattle.apk_member.specs.TableFile.{names_apk}

-- a path that ends in `.arsc`, in any letter case
abbrev pub ends_as_table : List ℕ → Bool
ends_as_table path = str_eq_ignore_ascii_case (drop (length path - 5) path) (codes ".arsc")

-- such a word ends as the path of an apk or of a table
abbrev pub is_list_word : List ℕ → Bool
is_list_word word = names_apk word || ends_as_table word

-- the path of a layer's table, and of an overlay the place of the base that it overlays
pub record ListedLayer : Type 0 where
  pub path : List ℕ
  pub base : Option ℕ

abbrev pub is_comma : ℕ → Bool
is_comma byte = byte == 44

abbrev pub is_plus : ℕ → Bool
is_plus byte = byte == 43

abbrev pub base_at : List ℕ → ListedLayer
base_at path = record { path = path; base = None }

-- an overlay of the base at a place
abbrev pub overlay_of : ℕ → List ℕ → ListedLayer
overlay_of place path = record { path = path; base = Some place }

-- a base, which stands at this place, and its overlays
abbrev pub with_overlays : ℕ → List (List ℕ) → List ListedLayer
with_overlays place [] = []
with_overlays place (base ∷ overlays) = base_at base ∷ map (overlay_of place) overlays

-- layers, and behind them some bases with their overlays
unfoldable pub with_groups : List ListedLayer → List (List ℕ) → List ListedLayer
with_groups before [] = before
with_groups before (group ∷ groups) = with_groups (before ++ with_overlays (length before) (slice_split is_plus group)) groups

-- an overlay is one of the last base before it
abbrev pub layers_in_word : List ℕ → List ListedLayer
layers_in_word word = with_groups [] (slice_split is_comma word)
