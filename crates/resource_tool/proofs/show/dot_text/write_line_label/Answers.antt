use Rattle.std.proofs.KnownBytes.{Appends-trans}
use Rattle.std.proofs.lemmas.Result.{on_ok_weaker}
use Rattle.resource_tool.specs.DotText.{line_label, unreached_label}
use Rattle.resource_tool.proofs.show.dot_text.write_line_label.Goals as goal

pub returns-in_ok-write_all-in-Unreached : goal.returns-in_ok-write_all-in-Unreached
unfolding line_label unreached_label
returns-in_ok-write_all-in-Unreached g c =
    rw c.in-Unreached.is
    (on_ok_weaker c.write_node_label-in-Unreached.result (λ last. Appends-trans _ _ _ _ _ c.in_ok-write_all-in-Unreached.ensures.bytes last) c.write_node_label-in-Unreached.ensures)
