-- The bytes of ids, one after the other.
use Rattle.std.proofs.Common.{◌≡◌, ℕ, List, [], ◌∷◌, ◌++◌, ap, ◌∙◌}
use Rattle.std.proofs.lemmas.List.{append-nil}
use Rattle.std.proofs.lemmas.Grind.{flat_map-append}
use Rattle.std.specs.Int.{w32, to_le_bytes}
use Rattle.overlay_map.specs.ContentKeys.{bytes_of}

-- those of one id more
pub one_more_id : (ids : List ℕ) (id : ℕ) → bytes_of (ids ++ id ∷ []) ≡ bytes_of ids ++ to_le_bytes w32 id
one_more_id ids id = flat_map-append (λ n. to_le_bytes w32 n) ids (id ∷ []) ∙ ap (λ (bytes : List ℕ). bytes_of ids ++ bytes) (append-nil (to_le_bytes w32 id))
