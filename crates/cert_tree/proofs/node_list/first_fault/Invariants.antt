use Rattle.std.proofs.Common.{◌≡◌, ◌≤◌, List, length}
use Rattle.serde_json.specs.Data.{Data}
use Rattle.json_tokens.proofs.Walked.{Walked}
use Rattle.cert_tree.proofs.node_list.first_fault.Given as goal

abbrev pub invariant-items : goal.invariant-items
invariant-items l =
    (before : List Data) × Walked l.depth l.initial.tokens before l.tokens × (length before ≡ l.count) × (l.count ≤ l.most)
    × (length l.tokens ≤ length l.initial.tokens)

abbrev pub decreases-items : goal.decreases-items
decreases-items l = length l.tokens
