-- Does a record suit a device? (AOSP: what ResTable_config::match asks of locales.)
use Rattle.std.specs.Prelude.{◌==◌, ◌&&◌, ◌||◌, not, nat_eq, Bool, true, false, if◌then◌else◌, is_none}
use Rattle.std.specs.Option.{option_eq}
use Rattle.locales.specs.Facts.{language_of, region_of}
use Rattle.locales.specs.declared.compared.RecordLocale.{RecordLocale}
use Rattle.locales.specs.declared.compared.DeviceLocale.{DeviceLocale}
use Rattle.locales.specs.Words.{locale_of_device, script_of_device, locale_of_record, says_nothing, script_of_record, are_alike}

-- it has no script, none was computed, and it has no likely one
abbrev pub has_unknown_script : RecordLocale → Bool
has_unknown_script r = is_none (script_of_record r) && not r.script_was_computed

-- Where both scripts can be told they are compared, and regions do not matter. A record of which a script was computed, and
-- that has none, suits no device that has one.
unfoldable pub suits_of : RecordLocale → DeviceLocale → Bool
suits_of r d =
    let locale = locale_of_record r in
    let wanted = locale_of_device d in
    if says_nothing r then true
    else if not (are_alike (language_of locale) (language_of wanted)) then false
    else if is_none (script_of_device d) || has_unknown_script r then region_of locale == 0 || region_of locale == region_of wanted
    else option_eq nat_eq (script_of_record r) (script_of_device d)
