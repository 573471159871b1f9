-- What names stand for, told name by name. Contracts within the crate alone speak of this.
use Rattle.std.specs.Prelude.{◌≡◌, ℕ, List, map, Option, Some, Vec}
use Rattle.std.specs.Borrow.{Bor}
use Rattle.std.specs.BTreeMap.{BTreeMap, get}
use Rattle.std.specs.Cmp.Lexicographic.{slice_cmp}
use Rattle.std.specs.Option.{option_cmp, option_map}
use Rattle.std.specs.Ordering.{nat_cmp}
use Rattle.std.specs.declared.alloc.Global.{Global}
use Rattle.std.specs.declared.cmp.Ordering.{Ordering}
use Rattle.std.specs.declared.rc.Rc.{Rc}
use Rattle.std.specs.Vec.Iter.{into_iter_items}
use Rattle.overlay_map.specs.Layer.{LayerOf, base_tables}
use Rattle.res_value.specs.declared.res_id.ResId.{ResId}
use Rattle.names.specs.Names.{WantedOf}
use Rattle.names.specs.declared.finder.Finder.{Finder}
use Rattle.names.specs.NamedIds.{found_of_name, ids_of_rows, packages_of}
use Rattle.names.specs.Packages.{package_name_of}

-- the order of the names of types
abbrev pub type_cmp : Option (Bor (List ℕ)) → Option (Bor (List ℕ)) → Ordering
type_cmp = option_cmp (λ a b. slice_cmp nat_cmp a.now b.now)

abbrev pub Ids : Type 0
Ids = Rc (Vec ResId Global) Global

abbrev pub Known : Type 0
Known = BTreeMap (Option (Bor (List ℕ))) Ids

-- what is known of types are the ids of their rows
abbrev pub AreKnown : List LayerOf → Known → Type 0
AreKnown layers known =
    (type_name : Option (Bor (List ℕ))) (ids : Ids) → get type_cmp known type_name ≡ Some ids
    → ids_of_rows layers (option_map (λ name. name.now) type_name) ≡ ids.value.items

-- over these layers, what these names stand for is still to be told
pub record Tells (layers : List LayerOf) (names : List WantedOf) (finder : Finder) : Type 0 where
  pub tables : map (λ table. table.now) finder.tables.items ≡ base_tables layers
  pub packages : map package_name_of finder.packages.items ≡ packages_of layers
  pub found : into_iter_items finder.found ≡ map (found_of_name layers) names
  pub known : AreKnown layers finder.known
