use Rattle.std.proofs.Common.{◌≡◌, ◌++◌, map}
use Rattle.stack_diff.specs.PlacesSeen.{id_of}
use Rattle.stack_diff.proofs.looked_up.ids_in.Given as goal

-- all ids were pushed but those that are left
abbrev pub invariant-loop-number : goal.invariant-loop-number
invariant-loop-number l = l.ids.items ++ map id_of l.number-iterator ≡ map id_of l.numbers.keys
