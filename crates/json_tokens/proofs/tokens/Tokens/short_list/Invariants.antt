use Rattle.std.proofs.Common.{◌≡◌, ◌-◌, ◌≤◌, List, map, take, length}
use Rattle.serde_json.specs.Data.{Data}
use Rattle.json_tokens.specs.Kind.{kind_of, kind_seen}
use Rattle.json_tokens.proofs.Walked.{Walked}
use Rattle.json_tokens.proofs.tokens.Tokens.short_list.Given as goal

abbrev pub invariant-items : goal.invariant-items
invariant-items l =
    (before : List Data) × Walked (l.depth - 1) l.initial.self before l.self
    × (map kind_of before ≡ map kind_seen (take l.count l.kinds)) × (length before ≡ l.count) × (l.count ≤ length l.kinds)
    × (length l.self ≤ length l.initial.self)

abbrev pub decreases-items : goal.decreases-items
decreases-items l = length l.self
