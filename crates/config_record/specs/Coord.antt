-- The coordinates of a configuration: their order, names and greatest numbers.
use Rattle.std.specs.Prelude.{ℕ, ◌==◌, ◌||◌, nat_lt, Bool, List, [], ◌∷◌, codes, slice_index}
use Rattle.config_record.specs.declared.coord.Coord.{Coord}
use Rattle.config_record.specs.declared.coord.Coord.TheVariants.{Mcc, Mnc, Locale, LayoutDirection, SmallestWidthDp, WidthDp, HeightDp, ScreenSize, Long, Round, WideColor, Hdr, Orientation, UiType, Night, Density, Touchscreen, KeysHidden, NavHidden, Keyboard, Navigation, Width, Height, Sdk, Minor}

-- all of them, in their order
unfoldable pub all_coords : List Coord
all_coords =
    Mcc ∷ Mnc ∷ Locale ∷ LayoutDirection ∷ SmallestWidthDp
    ∷ WidthDp ∷ HeightDp ∷ ScreenSize ∷ Long ∷ Round
    ∷ WideColor ∷ Hdr ∷ Orientation ∷ UiType ∷ Night
    ∷ Density ∷ Touchscreen ∷ KeysHidden ∷ NavHidden ∷ Keyboard
    ∷ Navigation ∷ Width ∷ Height ∷ Sdk ∷ Minor
    ∷ []

-- the place of each among them
unfoldable pub place_of : Coord → ℕ
place_of Mcc = 0
place_of Mnc = 1
place_of Locale = 2
place_of LayoutDirection = 3
place_of SmallestWidthDp = 4
place_of WidthDp = 5
place_of HeightDp = 6
place_of ScreenSize = 7
place_of Long = 8
place_of Round = 9
place_of WideColor = 10
place_of Hdr = 11
place_of Orientation = 12
place_of UiType = 13
place_of Night = 14
place_of Density = 15
place_of Touchscreen = 16
place_of KeysHidden = 17
place_of NavHidden = 18
place_of Keyboard = 19
place_of Navigation = 20
place_of Width = 21
place_of Height = 22
place_of Sdk = 23
place_of Minor = 24

-- the name that is printed, and that stands in JSON
unfoldable pub name_of : Coord → List ℕ
name_of Mcc = codes "mcc"
name_of Mnc = codes "mnc"
name_of Locale = codes "locale"
name_of LayoutDirection = codes "layoutDirection"
name_of SmallestWidthDp = codes "smallestWidthDp"
name_of WidthDp = codes "widthDp"
name_of HeightDp = codes "heightDp"
name_of ScreenSize = codes "screenSize"
name_of Long = codes "long"
name_of Round = codes "round"
name_of WideColor = codes "wideColor"
name_of Hdr = codes "hdr"
name_of Orientation = codes "orientation"
name_of UiType = codes "uiType"
name_of Night = codes "night"
name_of Density = codes "density"
name_of Touchscreen = codes "touchscreen"
name_of KeysHidden = codes "keysHidden"
name_of NavHidden = codes "navHidden"
name_of Keyboard = codes "keyboard"
name_of Navigation = codes "navigation"
name_of Width = codes "width"
name_of Height = codes "height"
name_of Sdk = codes "sdk"
name_of Minor = codes "minor"

-- the greatest number that its field of a record holds: none at the locale, which is no number
unfoldable pub greatest_of : Coord → ℕ
greatest_of Mcc = 65535
greatest_of Mnc = 65535
greatest_of Locale = 0
greatest_of LayoutDirection = 3
greatest_of SmallestWidthDp = 65535
greatest_of WidthDp = 65535
greatest_of HeightDp = 65535
greatest_of ScreenSize = 15
greatest_of Long = 3
greatest_of Round = 3
greatest_of WideColor = 3
greatest_of Hdr = 3
greatest_of Orientation = 255
greatest_of UiType = 15
greatest_of Night = 3
greatest_of Density = 65535
greatest_of Touchscreen = 255
greatest_of KeysHidden = 3
greatest_of NavHidden = 3
greatest_of Keyboard = 255
greatest_of Navigation = 255
greatest_of Width = 65535
greatest_of Height = 65535
greatest_of Sdk = 65535
greatest_of Minor = 65535

-- the greatest number of a device: that of a record's field, but for density
unfoldable pub greatest_of_device : Coord → ℕ
greatest_of_device Density = 32767
greatest_of_device c = greatest_of c

-- no device has this number there
unfoldable pub is_outside : Coord → ℕ → Bool
is_outside Density n = n == 0 || nat_lt (greatest_of_device Density) n
is_outside c n = nat_lt (greatest_of_device c) n

-- of a list with a number for each coordinate, in their order, the number of one
abbrev pub number_at : List ℕ → Coord → ℕ
number_at numbers c = slice_index numbers (place_of c)
