-- How contracts see which ids of an overlay a map carries over. (Cited by contracts of this crate alone.)
use Rattle.std.specs.Prelude.{◌≡◌, ℕ}
use Rattle.std.specs.BTreeSet.{BTreeSet, contains}
use Rattle.std.specs.Ordering.{nat_cmp}
use Rattle.command_base.specs.overlay_map.IdMap.{MapOf}
use Rattle.command_base.specs.MadeMap.{carries, keeps}

-- the ids that stand for some target
abbrev pub AreCarried : MapOf → BTreeSet ℕ → Type 0
AreCarried pairs own = (id : ℕ) → contains nat_cmp own id ≡ carries pairs id

-- the ids that stand for the target of the same number
abbrev pub AreKept : MapOf → BTreeSet ℕ → Type 0
AreKept pairs kept = (id : ℕ) → contains nat_cmp kept id ≡ keeps pairs id
