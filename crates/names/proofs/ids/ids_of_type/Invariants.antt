use Rattle.std.proofs.Common.{[], map, drop}
use Rattle.std.specs.Option.{option_map}
use Rattle.names.specs.IdsOfType.{numbers_in, put_each}
use Rattle.names.proofs.IdSteps.{PutsTablesBut}
use Rattle.names.proofs.ids.ids_of_type.Given as goal

-- with the tables that are left, the ids of all are put
abbrev pub invariant-loop-table : goal.invariant-loop-table
invariant-loop-table l =
    PutsTablesBut (option_map (λ name. name.now) l.type_name) l.numbers.keys (map (λ table. table.now) (drop l.table-index l.tables))
    (put_each [] (numbers_in (option_map (λ name. name.now) l.fn.type_name) (map (λ table. table.now) l.fn.tables)))
