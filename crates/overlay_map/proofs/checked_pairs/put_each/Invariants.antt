use Rattle.std.proofs.Common.{◌≡◌, ◌+◌, ◌≤◌, [], length}
use Rattle.contract_words.specs.Sequences.{joined_each, with_before}
use Rattle.indexmap.specs.IndexMap.{spare, hasher_of}
use Rattle.overlay_map.specs.IdMap.{checked_pair}
use Rattle.overlay_map.proofs.CheckSteps.{PutsAllBut}
use Rattle.overlay_map.proofs.checked_pairs.put_each.Given as goal

-- the map has the pairs so far, and there is room for those that are left
abbrev pub invariant-loop-pair : goal.invariant-loop-pair
invariant-loop-pair l = record {
  put : PutsAllBut l.first_package l.map.entries l.list l.pair-index (joined_each (checked_pair l.first_package) (with_before [] l.list));
  room : length l.list ≤ spare l.map + l.pair-index;
  hasher : hasher_of l.map ≡ hasher_of l.fn.map;
}
