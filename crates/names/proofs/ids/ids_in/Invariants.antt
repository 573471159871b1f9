use Rattle.std.proofs.Common.{◌≡◌, ◌++◌, map}
use Rattle.names.specs.IdsOfType.{id_of_number}
use Rattle.names.proofs.ids.ids_in.Given as goal

-- all ids were pushed but those that are left
abbrev pub invariant-loop-number : goal.invariant-loop-number
invariant-loop-number l = l.ids.items ++ map id_of_number l.number-iterator ≡ map id_of_number l.numbers.keys
