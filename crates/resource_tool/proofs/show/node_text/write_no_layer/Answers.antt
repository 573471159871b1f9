use Rattle.resource_tool.specs.TreeText.{no_layer}
use Rattle.resource_tool.proofs.show.node_text.write_no_layer.Goals as goal

pub returns-in-None : goal.returns-in-None
unfolding no_layer
returns-in-None g c = rw c.in-None.is c.write_all.ensures.bytes
