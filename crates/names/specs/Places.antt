-- The places of entries' names. Contracts within the crate alone speak of this.
use Rattle.std.specs.Prelude.{ℕ, List, []}
use Rattle.std.specs.BTreeMap.{get_by}
use Rattle.std.specs.Cmp.Lexicographic.{slice_cmp}
use Rattle.std.specs.Option.{option_map_or}
use Rattle.std.specs.Ordering.{nat_cmp}
use Rattle.names.specs.declared.places.Places.{Places}

-- the places of the entry's name of these bytes
abbrev pub places_at : Places → List ℕ → List ℕ
places_at places bytes = option_map_or (λ found. found.items) (get_by (λ key. slice_cmp nat_cmp bytes key.now) places.by_entry) []
