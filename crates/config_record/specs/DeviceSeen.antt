-- How contracts see a device.
use Rattle.std.specs.Prelude.{ℕ, List, Result, Ok, Err}
use Rattle.std.specs.Borrow.{Bor}
use Rattle.config_record.specs.declared.device.Device.{Device}
use Rattle.config_record.specs.declared.fields.DeviceFault.{DeviceFault}

-- as the list of its numbers
abbrev pub device_numbers : Device → List ℕ
device_numbers d = d.numbers

abbrev pub seen : Result Device DeviceFault → Result (List ℕ) DeviceFault
seen (Ok d) = Ok (device_numbers d)
seen (Err fault) = Err fault

-- a text that was lent
abbrev pub text_seen : Result (Bor (List ℕ)) DeviceFault → Result (List ℕ) DeviceFault
text_seen (Ok text) = Ok text.now
text_seen (Err fault) = Err fault

-- what a call wrote, where it had no fault
abbrev pub filled : Result (Unit {0}) DeviceFault → List ℕ → Result (List ℕ) DeviceFault
filled (Ok done) numbers = Ok numbers
filled (Err fault) numbers = Err fault
