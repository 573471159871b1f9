use Rattle.command_base.specs.MapFaultText.{map_fault_text}
use Rattle.command_base.proofs.map_fault.write_map_fault.Goals as goal

pub returns-in-OtherPackage : goal.returns-in-OtherPackage
unfolding map_fault_text
returns-in-OtherPackage g c = rw c.in-OtherPackage.is c.write_named_id-in-OtherPackage.ensures
