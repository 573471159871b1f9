use Rattle.resource_tool.proofs.make.make_bytes.Goals as goal

pub returns : goal.returns
returns g c = rw c.in_ok-opened.ensures.value c.in_ok-answered.ensures.prints
