-- The conditions of a match: for each coordinate what it asks of a record and a device (AOSP:
-- ResTable_config::match).
use Rattle.std.specs.Prelude.{List, [], ◌∷◌}
use Rattle.config_match.specs.config_record.declared.coord.Coord.TheVariants as coords
use Rattle.config_match.specs.declared.kind.Kind.TheVariants as kinds
use Rattle.config_match.specs.declared.rule.Rule.{Rule}
use Rattle.config_match.specs.Rule.{at}

-- in the order of the coordinates
unfoldable pub all_conditions : List Rule
all_conditions =
    at coords.Mcc kinds.Equal
    ∷ at coords.Mnc kinds.Equal
    ∷ at coords.Locale kinds.LocaleSuits
    ∷ at coords.LayoutDirection kinds.Equal
    ∷ at coords.SmallestWidthDp kinds.AtMost
    ∷ at coords.WidthDp kinds.AtMost
    ∷ at coords.HeightDp kinds.AtMost
    ∷ at coords.ScreenSize kinds.AtMost
    ∷ at coords.Long kinds.Equal
    ∷ at coords.Round kinds.Equal
    ∷ at coords.WideColor kinds.Equal
    ∷ at coords.Hdr kinds.Equal
    ∷ at coords.Orientation kinds.Equal
    ∷ at coords.UiType kinds.Equal
    ∷ at coords.Night kinds.Equal
    ∷ at coords.Density kinds.Always
    ∷ at coords.Touchscreen kinds.Equal
    ∷ at coords.KeysHidden kinds.KeysSuit
    ∷ at coords.NavHidden kinds.Equal
    ∷ at coords.Keyboard kinds.Equal
    ∷ at coords.Navigation kinds.Equal
    ∷ at coords.Width kinds.AtMost
    ∷ at coords.Height kinds.AtMost
    ∷ at coords.Sdk kinds.AtMost
    ∷ at coords.Minor kinds.Equal
    ∷ []
