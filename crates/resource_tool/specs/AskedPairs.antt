-- The labels of two stacks for which words ask. (Cited by contracts of this crate alone.)
use Rattle.std.specs.Prelude.{◌≡◌, List, Some, Result, Ok}
use Rattle.std.specs.List.{All}
use Rattle.contract_words.specs.Faults.{◌>>=◌}
use Rattle.command_base.specs.CarriesOut.{found_or_stop}
use Rattle.command_base.specs.Stop.{StopOf}
use Rattle.stack_diff.specs.names.Laws.{id_of}
use Rattle.stack_diff.specs.names.NameFault.{NameFaultOf}
use Rattle.stack_diff.specs.names.NamedPairs.{pairs_named}
use Rattle.stack_diff.specs.names.NamedSet.{NamedSetOf}
use Rattle.stack_diff.specs.names.Pairs.{PairOf, sides_of, name_pairs}
use Rattle.stack_diff.specs.Stacks.{StacksOf}
use Rattle.resource_tool.specs.Diff.{OpenDiffOf}
use Rattle.resource_tool.specs.DiffInputs.{DiffInputs}

abbrev pub asked_pairs : StacksOf → List NamedSetOf → Result (List PairOf) NameFaultOf
asked_pairs stacks sets = pairs_named stacks.old stacks.new sets (name_pairs stacks.old stacks.new)

-- what was opened, and the labels for which words ask
abbrev pub asked_of : DiffInputs → List NamedSetOf → Result OpenDiffOf StopOf
asked_of opened sets = found_or_stop (asked_pairs opened.stacks sets) >>= λ pairs. Ok (record { opened = opened; pairs = pairs })

-- each with what it stands for in either stack
abbrev pub AreOfStacks : StacksOf → List PairOf → Type 0
AreOfStacks stacks pairs = All (λ pair. sides_of (id_of stacks.old pair.label) (id_of stacks.new pair.label) ≡ Some pair.sides) pairs
