use Rattle.std.proofs.Common.{ap, ◌∙◌}
use Rattle.std.proofs.KnownBytes.{Appends-trans}
use Rattle.std.proofs.lemmas.Result.{on_ok_weaker}
use Rattle.resource_tool.specs.DiffLines.{diff_lines, set_aside_line, shared_names_line}
use Rattle.resource_tool.specs.NameLines.{same_line}
use Rattle.resource_tool.specs.StackCounts.{counts_of}
use Rattle.resource_tool.proofs.lines.write_lines.Goals as goal

pub returns : goal.returns
unfolding diff_lines shared_names_line set_aside_line same_line
returns g c =
    let old = c.of-old.ensures ∙ ap (counts_of c.args.rule) c.old_stack.ensures in
    let new = c.of-new.ensures ∙ ap (counts_of c.args.rule) c.new_stack.ensures in
    let labels = rw c.packages.ensures at c.in_ok-write_labels.ensures in
    let shared = rw (old, new) at c.in_ok-write_counts.ensures in
    let aside = rw (old, new) at c.in_ok-write_counts-2.ensures in
    let same = rw c.same_count.ensures at c.write_count.ensures in
    let to_shared = Appends-trans _ _ _ _ _ labels shared in
    let to_aside = Appends-trans _ _ _ _ _ to_shared aside in
    on_ok_weaker c.write_count.result (λ last. Appends-trans _ _ _ _ _ to_aside last) same
