use Rattle.std.proofs.Common.{drop}
use Rattle.config_record.specs.Record.{record_bytes}
use Rattle.config_record.specs.locales.Locale.{dash}
use Rattle.config_record.proofs.SeparatorSteps.{ContinuesAllBut}
use Rattle.notation.specs.ConfigText.{parts_at}
use Rattle.notation.proofs.config_text.write_each.Given as goal

-- the parts so far are written
abbrev pub invariant-loop-coord : goal.invariant-loop-coord
invariant-loop-coord g l =
    ContinuesAllBut (parts_at (record_bytes l.config)) (record { byte = dash; due = l.fn.due }) (record { byte = dash; due = l.due }) (g.W.Write.contents l.fn.out) (g.W.Write.contents l.out) l.coords (drop l.coord-index l.coords)
