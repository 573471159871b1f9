-- The words that are a number at a coordinate (AOSP: `Configuration.resourceQualifierString`). `mnc00` is one of them: the network
-- code 0, of which a device has 65535 (`stored` in Forms.antt).
use Rattle.std.specs.Prelude.{ℕ, ◌==◌, ◌&&◌, List, [], ◌∷◌, codes, Option, Some, None, bytes_eq, if◌then◌else◌}
use Prim.Native.String.{String}
use Rattle.config_record.specs.declared.coord.Coord.{Coord}
use Rattle.config_record.specs.declared.coord.Coord.TheVariants.{Mnc, LayoutDirection, ScreenSize, Long, Round, WideColor, Hdr, Orientation, UiType, Night, Density, Touchscreen, KeysHidden, NavHidden, Keyboard, Navigation}
use Rattle.config_record.specs.Coord.{place_of}
use Rattle.notation.specs.declared.words.Word.{Word}

pub record WordOf : Type 0 where
  pub text : List ℕ
  pub coord : Coord
  pub number : ℕ

abbrev pub word_of : Word → WordOf
word_of word = record { text = word.text.now; coord = word.coord; number = word.number }

abbrev pub word : String → Coord → ℕ → WordOf
word text coord number = record { text = codes text; coord = coord; number = number }

unfoldable pub words : List WordOf
words =
    word "mnc00" Mnc 65535
    ∷ word "ldltr" LayoutDirection 1 ∷ word "ldrtl" LayoutDirection 2
    ∷ word "small" ScreenSize 1 ∷ word "normal" ScreenSize 2 ∷ word "large" ScreenSize 3 ∷ word "xlarge" ScreenSize 4
    ∷ word "notlong" Long 1 ∷ word "long" Long 2
    ∷ word "notround" Round 1 ∷ word "round" Round 2
    ∷ word "nowidecg" WideColor 1 ∷ word "widecg" WideColor 2
    ∷ word "lowdr" Hdr 1 ∷ word "highdr" Hdr 2
    ∷ word "port" Orientation 1 ∷ word "land" Orientation 2 ∷ word "square" Orientation 3
    ∷ word "desk" UiType 2 ∷ word "car" UiType 3 ∷ word "television" UiType 4 ∷ word "appliance" UiType 5
    ∷ word "watch" UiType 6 ∷ word "vrheadset" UiType 7
    ∷ word "notnight" Night 1 ∷ word "night" Night 2
    ∷ word "ldpi" Density 120 ∷ word "mdpi" Density 160 ∷ word "tvdpi" Density 213 ∷ word "hdpi" Density 240
    ∷ word "xhdpi" Density 320 ∷ word "xxhdpi" Density 480 ∷ word "xxxhdpi" Density 640
    ∷ word "anydpi" Density 65534 ∷ word "nodpi" Density 65535
    ∷ word "notouch" Touchscreen 1 ∷ word "stylus" Touchscreen 2 ∷ word "finger" Touchscreen 3
    ∷ word "keysexposed" KeysHidden 1 ∷ word "keyshidden" KeysHidden 2 ∷ word "keyssoft" KeysHidden 3
    ∷ word "nokeys" Keyboard 1 ∷ word "qwerty" Keyboard 2 ∷ word "12key" Keyboard 3
    ∷ word "navexposed" NavHidden 1 ∷ word "navhidden" NavHidden 2
    ∷ word "nonav" Navigation 1 ∷ word "dpad" Navigation 2 ∷ word "trackball" Navigation 3 ∷ word "wheel" Navigation 4
    ∷ []

-- the word that is this text
unfoldable pub find_word : List WordOf → List ℕ → Option WordOf
find_word [] text = None
find_word (word ∷ others) text = if bytes_eq word.text text then Some word else find_word others text

-- the text of the word that is this number at this coordinate
unfoldable pub word_for : List WordOf → Coord → ℕ → Option (List ℕ)
word_for [] coord number = None
word_for (word ∷ others) coord number =
    if place_of word.coord == place_of coord && word.number == number then Some word.text else word_for others coord number
