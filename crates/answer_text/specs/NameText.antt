-- The names of ids as text.
use Rattle.std.specs.Prelude.{ℕ, Bool, List, [], ◌++◌, codes, Option, Some, None, if◌then◌else◌}
use Rattle.bags_themes.specs.overlay_map.Layer.{LayerOf}
use Rattle.names.specs.IdWord.{word_of_id}

-- a word behind a space, where there is one
unfoldable pub word_text : Option (List ℕ) → List ℕ
word_text None = []
word_text (Some word) = codes " " ++ word

-- behind an id the word for its name
abbrev pub its_name : List LayerOf → ℕ → List ℕ
its_name stack id = word_text (word_of_id stack id)

-- the same, where names are asked for
unfoldable pub name_beside : List LayerOf → ℕ → Bool → List ℕ
name_beside stack id names = if names then its_name stack id else []

-- A stack, and whether names stand beside the ids that are printed of it.
pub record NamesBesideOf : Type 0 where
  pub stack : List LayerOf
  pub asked : Bool
