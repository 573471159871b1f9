use Rattle.std.proofs.Common.{◌≡◌, map, take}
use Rattle.serde_json.specs.View.{view}
use Rattle.config_box.specs.config_record.locales.LocaleNumber.{locale_number}
use Rattle.resource_text.specs.DevicesJson.{locale_data}
use Rattle.resource_text.proofs.devices_json.locales_json.Given as goal

-- the values of the locales so far
abbrev pub invariant-loop-locale : goal.invariant-loop-locale
invariant-loop-locale l = map view l.values.items ≡ map (λ locale. locale_data (locale_number locale)) (take l.locale-index l.locales)
