-- Which of the pairs of two stacks words ask for.
use Rattle.std.specs.Prelude.{ℕ, ◌==◌, ◌&&◌, ◌||◌, Bool, true, false, List, [], ◌∷◌, ◌++◌, filter, map, Option, Some, None, Result, Ok, Err}
use Rattle.std.specs.List.{list_any}
use Rattle.std.specs.Option.{option_or}
use Rattle.std.specs.Str.{bytes_eq}
use Rattle.overlay_map.specs.Layer.{LayerOf}
use Rattle.res_value.specs.ResId.{package_of}
use Rattle.res_value.specs.declared.res_id.ResId.{ResId}
use Rattle.names.specs.declared.found.Found.{Found}
use Rattle.names.specs.declared.found.Found.TheVariants as found
use Rattle.names.specs.declared.pair.Sides.{Sides}
use Rattle.names.specs.declared.pair.Sides.TheVariants.{Removed, Added, Both}
use Rattle.names.specs.Found.{found_among}
use Rattle.names.specs.Label.{LabelOf, ByName, ById}
use Rattle.names.specs.NameFault.{NameFaultOf, no_resource, two_resources}
use Rattle.names.specs.Named as word
use Rattle.names.specs.NamedIds.{packages_of}
use Rattle.names.specs.NamedSet.{NamedSetOf, SetOfOne, SetOfType, SetOfAll}
use Rattle.names.specs.Names.{wanted_name}
use Rattle.names.specs.PackageWord.{PackageWordOf}
use Rattle.names.specs.Packages.{PackageNameOf, is_asked_in}
use Rattle.names.specs.Pairs.{PairOf}
use Rattle.names.specs.WordText.{text_of_set, two_text}

-- ---- what a word asks for

-- an id that stands on either side
abbrev pub is_on_a_side : ResId → Sides → Bool
is_on_a_side id (Removed old) = id.0 == old.0
is_on_a_side id (Added new) = id.0 == new.0
is_on_a_side id (Both old new) = id.0 == old.0 || id.0 == new.0

-- the id in the new stack, or else in the old one
abbrev pub id_of_sides : Sides → ResId
id_of_sides (Removed old) = old
id_of_sides (Added new) = new
id_of_sides (Both old new) = new

abbrev pub id_of_pair : PairOf → ResId
id_of_pair pair = id_of_sides pair.sides

-- a name of this type and this entry
abbrev pub is_named : List ℕ → List ℕ → LabelOf → Bool
is_named type_name entry_name (ByName name) = bytes_eq type_name name.type_name && bytes_eq entry_name name.entry_name
is_named type_name entry_name (ById id) = false

-- a name of this type
abbrev pub is_of_type : List ℕ → LabelOf → Bool
is_of_type type_name (ByName name) = bytes_eq type_name name.type_name
is_of_type type_name (ById id) = false

-- a pair of a package that is asked for
abbrev pub is_asked_in_pair : List PackageNameOf → Option PackageWordOf → PairOf → Bool
is_asked_in_pair packages in_package pair = is_asked_in packages in_package (package_of (id_of_pair pair))

-- whether a word asks for a pair, where these are the packages
abbrev pub asks_for : List PackageNameOf → NamedSetOf → PairOf → Bool
asks_for packages (SetOfOne (word.ById id)) pair = is_on_a_side id pair.sides
asks_for packages (SetOfOne (word.ByName in_package type_name entry_name)) pair =
    is_asked_in_pair packages in_package pair && is_named type_name entry_name pair.label
asks_for packages (SetOfType in_package type_name) pair = is_asked_in_pair packages in_package pair && is_of_type type_name pair.label
asks_for packages SetOfAll pair = true

-- ---- faults

-- the pairs for which a word asks: of the first package, and of another one
abbrev pub found_of_pairs : List PackageNameOf → List PairOf → NamedSetOf → Found
found_of_pairs packages pairs set = found_among (map id_of_pair (filter (asks_for packages set) pairs))

-- a word asks for no pair, or it is a name of two packages
abbrev pub fault_of_found : List PackageNameOf → NamedSetOf → Found → Option NameFaultOf
fault_of_found packages set found.Nothing = Some (no_resource (text_of_set set))
fault_of_found packages set (found.One id) = None
fault_of_found packages (SetOfOne (word.ByName in_package type_name entry_name)) (found.Two first other) =
    Some (two_resources (two_text packages (wanted_name in_package type_name entry_name) first other))
fault_of_found packages (SetOfOne (word.ById id)) (found.Two first other) = None
fault_of_found packages (SetOfType in_package type_name) (found.Two first other) = None
fault_of_found packages SetOfAll (found.Two first other) = None

-- the fault of the first word that has one
unfoldable pub first_fault : List PackageNameOf → List PairOf → List NamedSetOf → Option NameFaultOf
first_fault packages pairs [] = None
first_fault packages pairs (set ∷ sets) = option_or (fault_of_found packages set (found_of_pairs packages pairs set)) (first_fault packages pairs sets)

-- ---- all words

-- whether some word asks for a pair
abbrev pub is_asked : List PackageNameOf → List NamedSetOf → PairOf → Bool
is_asked packages sets pair = list_any (λ set. asks_for packages set pair) sets

-- pairs, or a fault
abbrev pub unless_fault : Option NameFaultOf → List PairOf → Result (List PairOf) NameFaultOf
unless_fault (Some fault) pairs = Err fault
unless_fault None pairs = Ok pairs

-- without words all pairs; else those for which some word asks, in their order, where each word asks for some
unfoldable pub pairs_in : List PackageNameOf → List NamedSetOf → List PairOf → Result (List PairOf) NameFaultOf
pairs_in packages [] pairs = Ok pairs
pairs_in packages (set ∷ sets) pairs = unless_fault (first_fault packages pairs (set ∷ sets)) (filter (is_asked packages (set ∷ sets)) pairs)

-- the same for pairs of these stacks, whose packages are those of both
abbrev pub pairs_named : List LayerOf → List LayerOf → List NamedSetOf → List PairOf → Result (List PairOf) NameFaultOf
pairs_named old new sets pairs = pairs_in (packages_of old ++ packages_of new) sets pairs
