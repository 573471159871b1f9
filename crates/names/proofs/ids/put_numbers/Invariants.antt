use Rattle.std.specs.Option.{option_map}
use Rattle.overlay_map.specs.Table.{rows_of}
use Rattle.names.specs.IdsOfType.{numbers_of_type, put_each}
use Rattle.names.proofs.IdSteps.{PutsAllBut}
use Rattle.names.proofs.ids.put_numbers.Given as goal

-- with the rows that are left, those of all are put
abbrev pub invariant-loop-row : goal.invariant-loop-row
invariant-loop-row l = record {
  can : (goal.iterator-loop-row).can_next l.row-iterator;
  ends : (goal.iterator-loop-row).is_finite l.row-iterator;
  put : PutsAllBut (option_map (λ name. name.now) l.type_name) l.table l.numbers.keys l.row-iterator
      (put_each l.fn.numbers.keys (numbers_of_type (option_map (λ name. name.now) l.fn.type_name) l.fn.table (rows_of l.fn.table)));
}
