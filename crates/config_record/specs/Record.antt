-- Records: the configurations that type chunks hold (AOSP: ResTable_config). A record is the list of
-- its bytes.
use Rattle.std.specs.Prelude.{ℕ, ◌+◌, ◌*◌, ◌/◌, ◌%◌, ◌==◌, ◌||◌, not, nat_lt, Bool, List, [], ◌∷◌, length, take, slice_index, Result, Ok, Err}
use Rattle.locales.specs.contract_words.Faults.{checked_by}
use Rattle.locales.specs.chunk_walk.Number.{number}
use Rattle.config_record.specs.declared.coord.Coord as coord
use Rattle.config_record.specs.declared.coord.Coord.TheVariants as coords
use Rattle.locales.specs.declared.locale.Locale.{Locale}
use Rattle.config_record.specs.declared.record.Record.{Record}
use Rattle.config_record.specs.declared.record.RecordFault.{RecordFault}
use Rattle.config_record.specs.declared.record.RecordFault.TheVariants.{Size, Outside}
use Rattle.locales.specs.Zero.{is_zero}
use Rattle.locales.specs.Locale.{without_script}

abbrev pub record_bytes : Record → List ℕ
record_bytes r = r.bytes.now

-- what a call returned, by its content, not its address
abbrev pub seen : Result Record RecordFault → Result (List ℕ) RecordFault
seen (Ok r) = Ok (record_bytes r)
seen (Err fault) = Err fault

-- ---- the record at the front of some bytes

-- its first field
abbrev pub size_in : List ℕ → ℕ
size_in bytes = number 4 bytes 0

-- what can be wrong with it, in the order of the checks
abbrev pub record_faults : List ℕ → List (Bool × RecordFault)
record_faults bytes =
    (nat_lt (length bytes) 4, Size)
    ∷ (nat_lt (size_in bytes) 28, Size)
    ∷ (nat_lt (length bytes) (size_in bytes), Outside)
    ∷ []

-- its bytes, as many as its size says, or its first fault
unfoldable pub record_in : List ℕ → Result (List ℕ) RecordFault
record_in bytes = checked_by (record_faults bytes) (Ok (take (size_in bytes) bytes))

-- ---- the fields of a record, by their offsets

-- past the end of a short record there are zeros
abbrev pub byte : List ℕ → ℕ → ℕ
byte r offset = slice_index r offset

-- the least significant byte first
abbrev pub two_bytes : List ℕ → ℕ → ℕ
two_bytes r offset = byte r offset + 256 * byte r (offset + 1)

abbrev pub mcc : List ℕ → ℕ
mcc r = two_bytes r 4

abbrev pub mnc : List ℕ → ℕ
mnc r = two_bytes r 6

abbrev pub language : List ℕ → List ℕ
language r = byte r 8 ∷ byte r 9 ∷ []

abbrev pub country : List ℕ → List ℕ
country r = byte r 10 ∷ byte r 11 ∷ []

abbrev pub orientation : List ℕ → ℕ
orientation r = byte r 12

abbrev pub touchscreen : List ℕ → ℕ
touchscreen r = byte r 13

abbrev pub density : List ℕ → ℕ
density r = two_bytes r 14

abbrev pub keyboard : List ℕ → ℕ
keyboard r = byte r 16

abbrev pub navigation : List ℕ → ℕ
navigation r = byte r 17

abbrev pub input_flags : List ℕ → ℕ
input_flags r = byte r 18

-- the byte after the input flags, in which no coordinate stands (AOSP: inputPad0)
abbrev pub input_pad : List ℕ → ℕ
input_pad r = byte r 19

abbrev pub screen_width : List ℕ → ℕ
screen_width r = two_bytes r 20

abbrev pub screen_height : List ℕ → ℕ
screen_height r = two_bytes r 22

abbrev pub sdk_version : List ℕ → ℕ
sdk_version r = two_bytes r 24

abbrev pub minor_version : List ℕ → ℕ
minor_version r = two_bytes r 26

abbrev pub screen_layout : List ℕ → ℕ
screen_layout r = byte r 28

abbrev pub ui_mode : List ℕ → ℕ
ui_mode r = byte r 29

abbrev pub smallest_screen_width_dp : List ℕ → ℕ
smallest_screen_width_dp r = two_bytes r 30

abbrev pub screen_width_dp : List ℕ → ℕ
screen_width_dp r = two_bytes r 32

abbrev pub screen_height_dp : List ℕ → ℕ
screen_height_dp r = two_bytes r 34

abbrev pub locale_script : List ℕ → List ℕ
locale_script r = byte r 36 ∷ byte r 37 ∷ byte r 38 ∷ byte r 39 ∷ []

abbrev pub locale_variant : List ℕ → List ℕ
locale_variant r = byte r 40 ∷ byte r 41 ∷ byte r 42 ∷ byte r 43 ∷ byte r 44 ∷ byte r 45 ∷ byte r 46 ∷ byte r 47 ∷ []

abbrev pub screen_layout2 : List ℕ → ℕ
screen_layout2 r = byte r 48

abbrev pub color_mode : List ℕ → ℕ
color_mode r = byte r 49

-- Android has looked for the script of its locale, which is then in its place or is not known (AOSP: localeScriptWasComputed)
abbrev pub script_was_computed : List ℕ → Bool
script_was_computed r = not (byte r 52 == 0)

-- ---- what the fields say

-- The number at each coordinate. Some fields hold several, cut from them by their bits.
unfoldable pub coordinate : List ℕ → coord.Coord → ℕ
coordinate r coords.Mcc = mcc r
coordinate r coords.Mnc = mnc r
coordinate r coords.Locale = 0
coordinate r coords.LayoutDirection = screen_layout r / 64
coordinate r coords.SmallestWidthDp = smallest_screen_width_dp r
coordinate r coords.WidthDp = screen_width_dp r
coordinate r coords.HeightDp = screen_height_dp r
coordinate r coords.ScreenSize = screen_layout r % 16
coordinate r coords.Long = screen_layout r / 16 % 4
coordinate r coords.Round = screen_layout2 r % 4
coordinate r coords.WideColor = color_mode r % 4
coordinate r coords.Hdr = color_mode r / 4 % 4
coordinate r coords.Orientation = orientation r
coordinate r coords.UiType = ui_mode r % 16
coordinate r coords.Night = ui_mode r / 16 % 4
coordinate r coords.Density = density r
coordinate r coords.Touchscreen = touchscreen r
coordinate r coords.KeysHidden = input_flags r % 4
coordinate r coords.NavHidden = input_flags r / 4 % 4
coordinate r coords.Keyboard = keyboard r
coordinate r coords.Navigation = navigation r
coordinate r coords.Width = screen_width r
coordinate r coords.Height = screen_height r
coordinate r coords.Sdk = sdk_version r
coordinate r coords.Minor = minor_version r

unfoldable pub locale_in : List ℕ → Locale
locale_in r = without_script (language r) (country r)

-- By language and region a record with a script or a variant is set aside: neither is compared with a device.
unfoldable pub is_set_aside : List ℕ → Bool
is_set_aside r = not (is_zero (locale_script r)) || not (is_zero (locale_variant r))
