use Rattle.std.proofs.Common.{◌≡◌, ◌≤◌, take, length}
use Rattle.bags_themes.specs.Bag.{merged}
use Rattle.bags_themes.specs.FoundBag.{found_bags_of}
use Rattle.bags_themes.proofs.ChainSteps.{merged_onto}
use Rattle.bags_themes.proofs.bags.merged.Given as goal

-- into the rows so far those of the bags that are left are still to be merged
abbrev pub invariant-bags : goal.invariant-bags
invariant-bags l = record {
  within : l.left ≤ length l.chain;
  others : merged_onto l.rows.items (found_bags_of (take l.left l.chain)) ≡ merged (found_bags_of l.chain);
}

abbrev pub decreases-bags : goal.decreases-bags
decreases-bags l = l.left
