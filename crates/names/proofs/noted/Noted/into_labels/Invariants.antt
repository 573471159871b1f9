use Rattle.std.specs.BTreeSet.{difference}
use Rattle.std.specs.Ordering.{nat_cmp}
use Rattle.names.proofs.NotesSteps.{AddsAllBut}
use Rattle.names.proofs.noted.Noted.into_labels.Given as goal

-- the ids for which no name stands were added but of those that are left
abbrev pub invariant-loop-id : goal.invariant-loop-id
invariant-loop-id l = AddsAllBut l.fn.self.labels l.labels (difference nat_cmp l.fn.self.ids l.fn.self.named) l.id-iterator
