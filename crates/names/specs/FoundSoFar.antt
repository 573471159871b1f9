-- How what a name stands for is found, id by id. Contracts within the crate alone speak of this.
use Rattle.std.specs.Prelude.{◌==◌, Bool, true, false, List, Option, Some, None, if◌then◌else◌}
use Rattle.std.specs.List.{fold}
use Rattle.res_value.specs.ResId.{package_of}
use Rattle.res_value.specs.declared.res_id.ResId.{ResId}
use Rattle.names.specs.declared.found.Found.{Found}
use Rattle.names.specs.declared.found.Found.TheVariants.{Nothing, One, Two}

abbrev pub beside : ResId → ResId → Found
beside first id = if package_of id == package_of first then One first else Two first id

-- one id more
abbrev pub also : Found → ResId → Found
also Nothing id = One id
also (One first) id = beside first id
also (Two first other) id = Two first other

-- the same, where it has the name
abbrev pub also_if : Found → Bool → ResId → Found
also_if found true id = also found id
also_if found false id = found

-- some ids more
abbrev pub also_each : Found → List ResId → Found
also_each = fold also

abbrev pub first_of : Found → Option ResId
first_of Nothing = None
first_of (One first) = Some first
first_of (Two first other) = Some first
