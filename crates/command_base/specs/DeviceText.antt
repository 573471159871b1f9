-- The text of a device: the word itself, as `am get-config` prints it, or the JSON text of a file.
use Rattle.std.specs.Prelude.{ℕ, List, Result, Ok, if◌then◌else◌}
use Rattle.contract_words.specs.Faults.{◌>>=◌}
use Rattle.notation.specs.Fault.{FaultOf, NoQualifier, NoDevice}
use Rattle.notation.specs.Printed.{is_printed, device_of_printed_by}
use Rattle.command_base.specs.answer_text.config_record.locales.declared.locale_rule.LocaleRule.{LocaleRule}
use Rattle.command_base.specs.answer_text.config_record.DeviceJson.{device_in_json_by}
use Rattle.command_base.specs.declared.device_text.DeviceText.{DeviceText}
use Rattle.command_base.specs.declared.device_text.DeviceText.TheVariants as texts
use Rattle.command_base.specs.Inputs.{Places, file_of, or_stop}
use Rattle.command_base.specs.Stop.{StopOf, device_part, tool}
use Rattle.command_base.specs.ToolFault.{fault_of_device}

pub data DeviceTextOf : Type 0 where
  printed : List ℕ → DeviceTextOf
  json : List ℕ → DeviceTextOf

abbrev pub device_text_of : DeviceText → DeviceTextOf
device_text_of (texts.Printed text) = printed text.now
device_text_of (texts.Json bytes) = json bytes.items

-- a word that begins with `config:` is the device itself, and any other is the path of its file
unfoldable pub device_text_at : Places → List ℕ → Result DeviceTextOf StopOf
device_text_at places word = if is_printed word then Ok (printed word) else (file_of places word >>= λ bytes. Ok (json bytes))

-- why the program stops where a printed text is no device
abbrev pub stop_of_words : FaultOf → StopOf
stop_of_words (NoQualifier part) = device_part part
stop_of_words (NoDevice fault) = tool (fault_of_device fault)

-- the device of a text, whose locale is read by this rule
abbrev pub device_in_text : LocaleRule → DeviceTextOf → Result (List ℕ) StopOf
device_in_text rule (printed text) = or_stop stop_of_words (device_of_printed_by rule text)
device_in_text rule (json bytes) = or_stop (λ fault. tool (fault_of_device fault)) (device_in_json_by rule bytes)
