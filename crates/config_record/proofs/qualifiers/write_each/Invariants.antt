use Rattle.std.proofs.Common.{drop}
use Rattle.config_record.specs.Qualifiers.{coordinate_qualifier}
use Rattle.config_record.proofs.SeparatorSteps.{ContinuesAllBut}
use Rattle.config_record.proofs.qualifiers.write_each.Given as goal

abbrev pub invariant-loop-coord : goal.invariant-loop-coord
invariant-loop-coord g l =
    ContinuesAllBut (coordinate_qualifier (g.C.Configuration.numbers l.config) (g.C.Configuration.its_locale l.config))
    l.fn.separator l.separator (g.W.Write.contents l.fn.out) (g.W.Write.contents l.out) l.coords (drop l.coord-index l.coords)
