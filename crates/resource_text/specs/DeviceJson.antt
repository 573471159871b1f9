-- A device as a JSON value, as a device file has it: what a missing member says, 0 or no locale, is left out. A device is the list of
-- its numbers.
use Rattle.std.specs.Prelude.{ℕ, List}
use Rattle.serde_json.specs.Data.{Data, object, no_members}
use Rattle.config_box.specs.config_record.Device.{device_coordinate, device_locale}
use Rattle.resource_text.specs.ConfigJson.{with_numbers, with_locale}

unfoldable pub device_data : List ℕ → Data
device_data d = object (with_locale (device_locale d) (with_numbers (device_coordinate d) no_members))
