-- The words by which locales are compared. A locale is the number of the four bytes of its language and its region, a language
-- a locale without a region, a script the number of its four bytes. Where there is none of these it is 0; of a device's script it
-- is known that there is none.
use Rattle.std.specs.Prelude.{ℕ, ◌==◌, ◌&&◌, ◌||◌, not, nat_le, Bool, if◌then◌else◌, List, Option, Some, None}
use Rattle.std.specs.Int.{w32, from_be_bytes}
use Rattle.locales.specs.TextNumber.{number_of_text}
use Rattle.locales.specs.Facts.{likely_of}
use Rattle.locales.specs.declared.compared.RecordLocale.{RecordLocale}
use Rattle.locales.specs.declared.compared.DeviceLocale.{DeviceLocale}

abbrev pub number_of_script : List ℕ → ℕ
number_of_script script = from_be_bytes w32 script

-- in the place of a device's script, that none is known
abbrev pub unknown_script : ℕ
unknown_script = 1

abbrev pub exactly_one : Bool → Bool → Bool
exactly_one one other = (one && not other) || (other && not one)

-- ---- of a device

abbrev pub locale_of_device : DeviceLocale → ℕ
locale_of_device d = d.locale

-- the one that its text has, or else the likely one: the device has either (Text.antt)
unfoldable pub script_of_device : DeviceLocale → Option ℕ
script_of_device d = if nat_le d.script unknown_script then None else Some d.script

-- ---- of a record

abbrev pub locale_of_record : RecordLocale → ℕ
locale_of_record r = r.locale

-- it has neither a language nor a region, whatever its script
abbrev pub says_nothing : RecordLocale → Bool
says_nothing r = locale_of_record r == 0

-- the one that it has; else none where byte 52 says that a script was computed; else the likely one
unfoldable pub script_of_record : RecordLocale → Option ℕ
script_of_record r =
    if not (r.script == 0) then Some r.script
    else if r.script_was_computed then None
    else likely_of (locale_of_record r)

-- ---- of languages

-- they are equal, or one is Tagalog and the other Filipino
unfoldable pub are_alike : ℕ → ℕ → Bool
are_alike one other =
    one == other
    || (one == number_of_text "tl" && other == number_of_text "fil")
    || (one == number_of_text "fil" && other == number_of_text "tl")
