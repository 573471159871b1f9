use Rattle.notation.proofs.DevicesNamed.{devices_are_named}
use Rattle.notation.proofs.SetLaw.{told}
use Rattle.notation.proofs.devices.write_devices.Goals as goal

pub returns-clause-named : goal.returns-clause-named
returns-clause-named g c = devices_are_named

pub returns-clause-told : goal.returns-clause-told
returns-clause-told g c = told
