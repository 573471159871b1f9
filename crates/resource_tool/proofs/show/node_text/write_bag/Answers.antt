use Rattle.std.proofs.lemmas.Result.{on_ok_weaker}
use Rattle.std.proofs.KnownBytes.{Appends-trans}
use Rattle.resource_tool.specs.TreeText.{bag_text}
use Rattle.resource_tool.proofs.show.node_text.write_bag.Goals as goal

pub returns : goal.returns
unfolding bag_text
returns g c =
    on_ok_weaker c.write_its_name.result (λ last. Appends-trans _ _ _ _ _ c.in_ok-end_text.ensures last) c.write_its_name.ensures
