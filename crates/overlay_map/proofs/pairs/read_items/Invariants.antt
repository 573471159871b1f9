use Rattle.std.proofs.Common.{length}
use Rattle.json_tokens.proofs.EachWalked.{EachWalked}
use Rattle.overlay_map.specs.IdMap.{pair_item}
use Rattle.overlay_map.proofs.pairs.read_items.Given as goal

-- the items so far are these pairs
abbrev pub invariant-items : goal.invariant-items
invariant-items l = EachWalked pair_item 126 l.fn.tokens l.pairs.items l.tokens

abbrev pub decreases-items : goal.decreases-items
decreases-items l = length l.tokens
