use Rattle.std.proofs.Common.{◌≡◌, ◌++◌, map}
use Rattle.names.specs.Merged.{labelled_of}
use Rattle.names.proofs.NamedSteps.{entry_labelled}
use Rattle.names.proofs.named_stack.labels_in.Given as goal

-- all labels were pushed but those that are left
abbrev pub invariant-loop-label : goal.invariant-loop-label
invariant-loop-label l = map labelled_of l.labels.items ++ map entry_labelled l.label-iterator ≡ map entry_labelled l.found.entries
