-- Links one after the other. Contracts within the crate alone speak of this.
use Rattle.std.specs.Prelude.{ℕ, suc, List, [], ◌∷◌, ◌==◌, length, reverse, if◌then◌else◌}
use Rattle.overlay_map.specs.declared.link.Link.{Link}

-- the types of the links from `next` on, among links of which the latest stands first; each link goes on to an earlier one
unfoldable pub numbers_back : List Link → ℕ → List ℕ
numbers_back [] next = []
numbers_back (link ∷ earlier) next =
    if next == suc (length earlier) then link.type_number ∷ numbers_back earlier link.next else numbers_back earlier next

-- the numbers of the types of the links from `next` on, which is how many links stand up to the first, with that one
unfoldable pub numbers_from : List Link → ℕ → List ℕ
numbers_from links next = numbers_back (reverse links) next
