use Rattle.command_base.specs.LayerListSeen.{all_paths_of}
use Rattle.command_base.proofs.LayerSteps.{KeptWalked}
use Rattle.std.proofs.Common.{◌≤◌, length}
use Rattle.command_base.proofs.layer_list.read_items.Given as goal

abbrev pub invariant-items : goal.invariant-items
invariant-items l = KeptWalked 126 l.initial.tokens (all_paths_of l.layers) l.tokens × (length l.tokens ≤ length l.initial.tokens)

abbrev pub decreases-items : goal.decreases-items
decreases-items l = length l.tokens
