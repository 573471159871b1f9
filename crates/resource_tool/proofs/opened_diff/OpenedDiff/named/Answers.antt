use Rattle.std.proofs.Common.{◌≡◌, List, ◌++◌, Some, ap, sym, ◌∙◌}
use Rattle.command_base.specs.overlay_map.Layer.{LayerOf}
use Rattle.stack_diff.specs.names.NamedIds.{packages_of}
use Rattle.resource_tool.specs.OpenedDiffSeen.{stacks_seen}
use Rattle.resource_tool.proofs.opened_diff.OpenedDiff.named.Goals as goal
use Rattle.resource_tool.proofs.opened_diff.OpenedDiff.named.Goals.{in-Some+in_ok-of-in-Some, in-None}

pub returns : goal.returns
returns c =
    let opened = c.args.self.now in
    let changed : c.match-self.changed ≡ opened.changed =
    elim c.match-self.branch [
      | in-Some+in_ok-of-in-Some w ↦ w.changed-is ∙ ap (λ (stack : List LayerOf). Some stack) w.in_ok-of-in-Some.ensures ∙ sym w.in-Some.is
      | in-None w ↦ w.changed-is ∙ sym w.in-None.is
    ] in
    let packages = c.in_ok-packages.ensures ∙ ap (λ (stack : List LayerOf). packages_of opened.old ++ packages_of stack) c.new_stack.ensures in
    λ i. record { stacks = stacks_seen (c.in_ok-old.ensures i) (changed i) (packages i); sets = opened.members; rule = opened.rule }
