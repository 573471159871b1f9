-- How contracts see lines and widths.
use Rattle.resource_text.specs.declared.columns.Line.{Line}
use Rattle.resource_text.specs.declared.columns.Widths.{Widths}
use Rattle.resource_text.specs.Columns.{LineOf, WidthsOf}

abbrev pub line_of : Line → LineOf
line_of line = record { layer = line.layer.items; config = line.config.items; value = line.value.items; decision = line.decision.items }

abbrev pub widths_seen : Widths → WidthsOf
widths_seen widths = record { layer = widths.layer; config = widths.config; value = widths.value }
