-- What a name stands for.
use Rattle.std.specs.Prelude.{◌==◌, not, Bool, List, [], ◌∷◌, find, Option, Some, None}
use Rattle.res_value.specs.ResId.{package_of}
use Rattle.res_value.specs.declared.res_id.ResId.{ResId}
use Rattle.names.specs.declared.found.Found.{Found}
use Rattle.names.specs.declared.found.Found.TheVariants.{Nothing, One, Two}

-- an id of another package
abbrev pub is_of_another : ResId → ResId → Bool
is_of_another first id = not (package_of id == package_of first)

abbrev pub found_beside : ResId → Option ResId → Found
found_beside first None = One first
found_beside first (Some other) = Two first other

-- of the ids that have the name: the first, and the first behind it that is of another package
abbrev pub found_among : List ResId → Found
found_among [] = Nothing
found_among (first ∷ others) = found_beside first (find (is_of_another first) others)
