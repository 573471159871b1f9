use Rattle.std.proofs.Common.{codes}
use Rattle.std.specs.Io.KnownBytes.{Appends}
use Rattle.std.specs.List.{repeat}
use Rattle.resource_text.proofs.columns.write_spaces.Given as goal

-- the spaces so far were written
abbrev pub invariant-spaces : goal.invariant-spaces
invariant-spaces g l = Appends (g.W.Write.contents l.fn.out) (g.W.Write.contents l.out) (repeat l.counter (codes " "))
