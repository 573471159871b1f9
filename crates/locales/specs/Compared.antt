-- What a phone compares of the locale of a record and of a device, as their numbers have it: the language above the region, and
-- the script below them.
use Rattle.std.specs.Prelude.{ℕ, ◌/◌, ◌%◌, ◌^◌, ◌==◌, if◌then◌else◌}
use Rattle.locales.specs.declared.compared.RecordLocale.{RecordLocale}
use Rattle.locales.specs.declared.compared.DeviceLocale.{DeviceLocale}

-- of a record, with what is kept of its script and its variant (KeptScript.antt)
unfoldable pub record_locale_of : ℕ → RecordLocale
record_locale_of n =
    let kept = n % 2 ^ 31 in
    record {
      locale = n / 2 ^ 32;
      script = if kept == 2 then 0 else kept;
      has_variant = n / 2 ^ 31 % 2 == 1;
      script_was_computed = kept == 2;
    }

unfoldable pub device_locale_of : ℕ → DeviceLocale
device_locale_of n = record { locale = n / 2 ^ 32; script = n % 2 ^ 32 }
