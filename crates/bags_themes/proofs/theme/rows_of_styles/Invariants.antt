use Rattle.reference_resolver.specs.config_record.DeviceSeen.{device_numbers}
use Rattle.bags_themes.proofs.StyleSteps.{RowsAllBut}
use Rattle.bags_themes.proofs.theme.rows_of_styles.Given as goal

-- the rows of the styles so far were read
abbrev pub invariant-loop-style : goal.invariant-loop-style
invariant-loop-style l = RowsAllBut l.stack l.styles (device_numbers l.device) l.rows.items l.style-index
