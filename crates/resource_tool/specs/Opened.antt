-- What commands for one device begin with: layers and a device, and then a resource.
use Rattle.std.specs.Prelude.{ℕ, List, Result, Ok}
use Rattle.contract_words.specs.Faults.{◌>>=◌}
use Rattle.command_base.specs.answer_text.config_record.locales.declared.locale_rule.LocaleRule.{LocaleRule}
use Rattle.command_base.specs.answer_text.config_record.DeviceJson.{device_in_json}
use Rattle.command_base.specs.overlay_map.Layer.{LayerOf}
use Rattle.command_base.specs.declared.fault.ToolFault.{ToolFault}
use Rattle.command_base.specs.ToolFault.{fault_of_device}
use Rattle.command_base.specs.StackBytes.{LayerBytes, stack_in}
use Rattle.command_base.specs.CarriesOut.{read_or_stop, id_named}
use Rattle.command_base.specs.DeviceText.{DeviceTextOf, device_in_text}
use Rattle.command_base.specs.MapErr.{map_err}
use Rattle.command_base.specs.Stop.{StopOf}
use Rattle.command_base.specs.answer_text.res_value.declared.res_id.ResId.{ResId}
use Rattle.command_base.specs.names.Named.{NamedOf}

pub record OpenedOf : Type 0 where
  pub stack : List LayerOf
  pub device : List ℕ

-- What these layers and a device of JSON mean, which is compared by language and region, or the first fault. The layers are read
-- before the device.
unfoldable pub opened_in : List LayerBytes → List ℕ → Result OpenedOf ToolFault
opened_in layers device_json = do
  stack ← stack_in layers
  device ← map_err fault_of_device (device_in_json device_json)
  Ok (record { stack = stack; device = device })

-- the same of a device's text, whose locale is read by this rule
unfoldable pub opened_by : LocaleRule → List LayerBytes → DeviceTextOf → Result OpenedOf StopOf
opened_by rule layers device_text = do
  stack ← read_or_stop (stack_in layers)
  device ← device_in_text rule device_text
  Ok (record { stack = stack; device = device })

-- layers and a device, and the one resource that is asked for
pub record OpenIdOf : Type 0 where
  pub opened : OpenedOf
  pub id : ResId

-- A name that stands for no resource comes after the faults of inputs.
unfoldable pub id_opened : LocaleRule → List LayerBytes → DeviceTextOf → NamedOf → Result OpenIdOf StopOf
id_opened rule layers device_text resource = do
  opened ← opened_by rule layers device_text
  id ← id_named opened.stack resource
  Ok (record { opened = opened; id = id })
