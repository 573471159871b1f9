-- Parts of a text with a byte between any two. Contracts within the crate alone speak of this.
use Rattle.std.specs.Prelude.{ℕ, ◌||◌, true, false, Bool, if◌then◌else◌, List, [], ◌∷◌, ◌≡◌, Option}
use Rattle.std.specs.List.{flat_map, join_with_byte}
use Rattle.std.specs.Io.KnownBytes.{Appends}
use Rattle.config_record.specs.declared.separator.Separator.{Separator}

-- whether there is a part
abbrev pub is_some_part : List (List ℕ) → Bool
is_some_part [] = false
is_some_part (part ∷ parts) = true

-- the text of parts, with the byte before the first too where it is due
unfoldable pub continued : Separator → List (List ℕ) → List ℕ
continued s parts = if s.due then flat_map (λ part. s.byte ∷ part) parts else join_with_byte s.byte parts

-- the byte is due once a part stands there
abbrev pub after_parts : Separator → List (List ℕ) → Separator
after_parts s parts = record { byte = s.byte; due = s.due || is_some_part parts }

-- parts were written after what stood there, and the separator has seen them
pub record Continues (before after : Separator) (old new : Option (List ℕ)) (parts : List (List ℕ)) : Type 0 where
  pub text : Appends old new (continued before parts)
  pub separator : after ≡ after_parts before parts
