use Rattle.std.proofs.Common.{◌≡◌, ◌-◌, ◌≤◌, length}
use Rattle.serde_json.specs.Data.{Members, object}
use Rattle.json_tokens.proofs.Walked.{WalkedMembers}
use Rattle.cert_tree.specs.KeptCert.{cert_members, cert_members_seen}
use Rattle.cert_tree.proofs.read.read_cert_members.Given as goal

abbrev pub invariant-members : goal.invariant-members
invariant-members l =
    (found : Members) × WalkedMembers (l.depth - 1) l.initial.tokens found l.tokens
    × (cert_members_seen l.members ≡ cert_members l.rule (object found)) × (length l.tokens ≤ length l.initial.tokens)

abbrev pub decreases-members : goal.decreases-members
decreases-members l = length l.tokens
