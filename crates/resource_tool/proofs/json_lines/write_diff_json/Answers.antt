use Rattle.std.proofs.Common.{ap, ◌∙◌}
use Rattle.std.proofs.KnownBytes.{Appends-trans}
use Rattle.std.proofs.lemmas.Result.{on_ok_weaker}
use Rattle.resource_tool.specs.JsonLines.{diff_json}
use Rattle.resource_tool.specs.StackCounts.{counts_of}
use Rattle.resource_tool.proofs.json_lines.write_diff_json.Goals as goal

pub returns : goal.returns
unfolding diff_json
returns g c =
    let old = c.of-old.ensures ∙ ap (counts_of c.args.rule) c.old_stack.ensures in
    let new = c.of-new.ensures ∙ ap (counts_of c.args.rule) c.new_stack.ensures in
    let names = rw c.requires at c.in_ok-write_names.ensures in
    let shared = rw (old, new) at c.in_ok-write_counts.ensures in
    let aside = rw (old, new) at c.in_ok-write_counts-2.ensures in
    let same = rw c.same_count.ensures at c.write_count.ensures in
    let to_shared = Appends-trans _ _ _ _ _ names shared in
    let to_aside = Appends-trans _ _ _ _ _ to_shared aside in
    on_ok_weaker c.write_count.result (λ last. Appends-trans _ _ _ _ _ to_aside last) same
