-- Which ids words ask for, over a stack of layers. The base layers give the names: overlays give none.
use Rattle.std.specs.Prelude.{ℕ, List, [], ◌∷◌, filter, Option, Some, None, Result, Ok, Err}
use Rattle.contract_words.specs.Faults.{◌>>=◌}
use Rattle.contract_words.specs.Sequences.{joined_each}
use Rattle.res_value.specs.ResId.{package_of}
use Rattle.res_value.specs.declared.res_id.ResId.{ResId}
use Rattle.overlay_map.specs.Layer.{LayerOf, base_tables}
use Rattle.names.specs.declared.found.Found.{Found}
use Rattle.names.specs.declared.found.Found.TheVariants.{Nothing, One, Two}
use Rattle.names.specs.Found.{found_among}
use Rattle.names.specs.IdsOfType.{ids_of_type}
use Rattle.names.specs.NameFault.{NameFaultOf, no_resource, two_resources}
use Rattle.names.specs.Named.{NamedOf, ById, ByName}
use Rattle.names.specs.NamedSet.{NamedSetOf, SetOfOne, SetOfType, SetOfAll}
use Rattle.names.specs.Names.{WantedOf, ids_with, wanted_name}
use Rattle.names.specs.PackageWord.{PackageWordOf}
use Rattle.names.specs.Packages.{PackageNameOf, is_asked_in, packages_in}
use Rattle.names.specs.WordText.{text_of_set, two_text, wanted_text}

abbrev pub packages_of : List LayerOf → List PackageNameOf
packages_of layers = packages_in (base_tables layers)

-- ---- names

-- the rows of base layers that have a name: of the first package, and of another one
abbrev pub found_of_name : List LayerOf → WantedOf → Found
found_of_name layers wanted = found_among (ids_with (packages_of layers) (base_tables layers) wanted)

-- A name stands for the first id that has it, and for none where it has ids of two packages.
abbrev pub id_of_found : List PackageNameOf → WantedOf → Found → Result ResId NameFaultOf
id_of_found packages wanted Nothing = Err (no_resource (wanted_text wanted))
id_of_found packages wanted (One id) = Ok id
id_of_found packages wanted (Two first other) = Err (two_resources (two_text packages wanted first other))

-- an id stands for itself, whether a table has it or not
unfoldable pub id_named : List LayerOf → NamedOf → Result ResId NameFaultOf
id_named layers (ById id) = Ok id
id_named layers (ByName in_package type_name entry_name) =
    let wanted = wanted_name in_package type_name entry_name in
    id_of_found (packages_of layers) wanted (found_of_name layers wanted)

-- ---- sets

-- no ids are a fault
abbrev pub some_of : NamedSetOf → List ResId → Result (List ResId) NameFaultOf
some_of set [] = Err (no_resource (text_of_set set))
some_of set (id ∷ ids) = Ok (id ∷ ids)

-- the ids of all rows of base layers whose type has this name; those of all their rows where none is named
abbrev pub ids_of_rows : List LayerOf → Option (List ℕ) → List ResId
ids_of_rows layers type_name = ids_of_type type_name (base_tables layers)

abbrev pub ids_in_package : List LayerOf → Option PackageWordOf → List ResId → List ResId
ids_in_package layers in_package ids = filter (λ id. is_asked_in (packages_of layers) in_package (package_of id)) ids

-- what a word stands for
unfoldable pub ids_of_set : List LayerOf → NamedSetOf → Result (List ResId) NameFaultOf
ids_of_set layers (SetOfOne named) = id_named layers named >>= λ id. Ok (id ∷ [])
ids_of_set layers (SetOfType in_package type_name) =
    some_of (SetOfType in_package type_name) (ids_in_package layers in_package (ids_of_rows layers (Some type_name)))
ids_of_set layers SetOfAll = some_of SetOfAll (ids_of_rows layers None)

-- the ids of each word, one word after the other
unfoldable pub ids_named : List LayerOf → List NamedSetOf → Result (List ResId) NameFaultOf
ids_named layers sets = joined_each (ids_of_set layers) sets
