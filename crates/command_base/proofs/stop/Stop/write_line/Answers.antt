use Rattle.command_base.proofs.stop.Stop.write_line.Goals as goal

pub returns-in-NotText : goal.returns-in-NotText
returns-in-NotText g c = rw c.in-NotText.is c.write_all.ensures.bytes

pub returns-in-TwoResources : goal.returns-in-TwoResources
returns-in-TwoResources g c =
    rw c.in-TwoResources.is (rw c.as_bytes-in-TwoResources.ensures.value at c.write_line_of_input-in-TwoResources.ensures)
