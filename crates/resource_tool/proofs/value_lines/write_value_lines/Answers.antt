use Rattle.std.proofs.Common.{ap, ◌∙◌}
use Rattle.std.proofs.lemmas.List.{length-map}
use Rattle.std.proofs.KnownBytes.{Appends-trans}
use Rattle.std.proofs.lemmas.Result.{on_ok_weaker}
use Rattle.stack_diff.specs.names.Pairs.{pair_of}
use Rattle.resource_tool.specs.StackCounts.{counts_of}
use Rattle.resource_tool.specs.ValuesOutput.{resources_line, values_lines}
use Rattle.resource_tool.proofs.value_lines.write_value_lines.Goals as goal

pub returns : goal.returns
unfolding values_lines resources_line
returns g c =
    let counts = c.of-counts.ensures ∙ ap (counts_of c.args.rule) c.new_stack.ensures in
    let labels = rw c.packages.ensures at c.in_ok-write_labels.ensures in
    let to_shared = Appends-trans _ _ _ _ _ labels (rw counts at c.in_ok-write_count_unless_0.ensures) in
    let to_aside = Appends-trans _ _ _ _ _ to_shared (rw counts at c.in_ok-write_count_unless_0-2.ensures) in
    rw (length-map c.args.pairs.now pair_of) (on_ok_weaker c.write_count.result (λ last. Appends-trans _ _ _ _ _ to_aside last) c.write_count.ensures)
