-- What the command `device` prints, and what its words ask.
use Rattle.std.specs.Prelude.{ℕ, List, Bool, true, false, Option, Result, Ok}
use Rattle.contract_words.specs.Faults.{◌>>=◌}
use Rattle.notation.specs.declared.line.NoLine.{NoLine}
use Rattle.notation.specs.declared.line.NoLine.TheVariants.{NoWord, OutOfMemory}
use Rattle.notation.specs.JsonText.{device_json}
use Rattle.notation.specs.Printed.{printed_of_by}
use Rattle.command_base.specs.answer_text.config_record.locales.declared.locale_rule.LocaleRule.{LocaleRule}
use Rattle.command_base.specs.declared.fault.ToolFault.TheVariants as faults
use Rattle.command_base.specs.declared.status.Status.{Status}
use Rattle.command_base.specs.declared.status.Status.TheVariants.{Done}
use Rattle.command_base.specs.declared.stop.Stop.{Stop}
use Rattle.command_base.specs.CarriesOut.{CarriesOut}
use Rattle.command_base.specs.DeviceText.{device_in_text, device_text_at}
use Rattle.command_base.specs.Inputs.{Places, or_stop}
use Rattle.command_base.specs.Output.{Output, Prints}
use Rattle.command_base.specs.Stop.{StopOf, no_word, tool}
use Rattle.resource_tool.specs.declared.device.DeviceForm.{DeviceForm}

-- why the program stops where a device has no line
abbrev pub stop_of_no_line : NoLine → StopOf
stop_of_no_line (NoWord coord) = no_word coord
stop_of_no_line OutOfMemory = tool faults.OutOfMemory

-- a device as `am get-config` prints it, its locale by this rule
abbrev pub config_of : LocaleRule → List ℕ → Result (List ℕ) StopOf
config_of rule device = or_stop stop_of_no_line (printed_of_by rule device)

-- in which form it is asked for
abbrev pub in_form : LocaleRule → Bool → List ℕ → Result (List ℕ) StopOf
in_form rule true device = config_of rule device
in_form rule false device = Ok (device_json device)

-- the device of a word, in another form
unfoldable pub device_form : Places → LocaleRule → Bool → List ℕ → Result (List ℕ) StopOf
device_form places rule config word = do
  text ← device_text_at places word
  device ← device_in_text rule text
  in_form rule config device

abbrev pub as_output : List ℕ → Output
as_output text = record { status = Done; text = text }

-- from what the places have
abbrev pub PrintsDevice : {W : Type 0} → (W → Option (List ℕ)) → W → W → Places → DeviceForm → Result Status Stop → Type 0
PrintsDevice contents old new places form result =
    CarriesOut (λ text done. Prints contents old new done (Ok (as_output text))) (device_form places form.locales form.config form.device.now) result
