-- The rules of precedence (AOSP: ResTable_config::isBetterThan), each a kind of comparison at a coordinate.
-- The dimensions look at the coordinate beside theirs too.
use Rattle.std.specs.Prelude.{List, [], ◌∷◌}
use Rattle.config_match.specs.config_record.declared.coord.Coord.TheVariants as coords
use Rattle.config_match.specs.declared.kind.Kind.TheVariants as kinds
use Rattle.config_match.specs.declared.rule.Rule.{Rule}
use Rattle.config_match.specs.Rule.{at}

-- in their order; the first has the number 1
unfoldable pub all_rules : List Rule
all_rules =
    at coords.Mcc kinds.Given  -- P1
    ∷ at coords.Mnc kinds.Given  -- P2
    ∷ at coords.Locale kinds.LocaleRank  -- P3
    ∷ at coords.LayoutDirection kinds.Larger  -- P4
    ∷ at coords.SmallestWidthDp kinds.AlwaysLarger  -- P5
    ∷ at coords.WidthDp kinds.Dimensions  -- P6
    ∷ at coords.ScreenSize kinds.ScreenSize  -- P7
    ∷ at coords.Long kinds.Given  -- P8
    ∷ at coords.Round kinds.Given  -- P9
    ∷ at coords.WideColor kinds.Given  -- P10
    ∷ at coords.Hdr kinds.Given  -- P11
    ∷ at coords.Orientation kinds.Given  -- P12
    ∷ at coords.UiType kinds.Given  -- P13
    ∷ at coords.Night kinds.Given  -- P14
    ∷ at coords.Density kinds.Density  -- P15
    ∷ at coords.Touchscreen kinds.Given  -- P16
    ∷ at coords.KeysHidden kinds.KeysHidden  -- P17
    ∷ at coords.NavHidden kinds.NavHidden  -- P18
    ∷ at coords.Keyboard kinds.Given  -- P19
    ∷ at coords.Navigation kinds.Given  -- P20
    ∷ at coords.Width kinds.Dimensions  -- P21
    ∷ at coords.Sdk kinds.Larger  -- P22
    ∷ at coords.Minor kinds.Given  -- P23
    ∷ []
