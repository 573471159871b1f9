use Rattle.std.proofs.Common.{◌-◌, ◌≤◌, length}
use Rattle.json_tokens.proofs.EachWalked.{EachWalked}
use Rattle.res_value.specs.Goal.{most_styles}
use Rattle.cert_tree.specs.CertJson.{id_item}
use Rattle.cert_tree.proofs.goal_members.read_styles.Given as goal

abbrev pub invariant-styles : goal.invariant-styles
invariant-styles l =
    EachWalked (id_item l.shape) (l.depth - 1) l.initial.tokens l.ids.items l.tokens × (length l.ids.items ≤ most_styles)
    × (length l.tokens ≤ length l.initial.tokens)

abbrev pub decreases-styles : goal.decreases-styles
decreases-styles l = length l.tokens
